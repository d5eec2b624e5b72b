use Rattle.std.proofs.Common.{ap, ◌∙◌}
use Rattle.fp_type_forms.specs.Broken.{size_fault}
use Rattle.fp_type_forms.specs.Resolved.{value_resolved}
use Rattle.fp_type_forms.proofs.Breaking.{size_taken_least}
use Rattle.fp_type_forms.proofs.faults.expression_size.Goals as goal

pub returns : goal.returns
returns c source scope since e here =
    size_taken_least source c.args.marks.now c.args.resolutions.now since scope c.args.rule c.args.most c.args.place e c.args.next.now c.taken-found.new.next c.fault_of_size.result here c.taken-found.ensures.moves
    (c.fault_of_size.ensures ∙ ap (size_fault c.args.rule c.args.most c.args.place) (c.value_of.ensures ∙ ap (value_resolved c.args.marks.now) c.taken-found.ensures.found))
