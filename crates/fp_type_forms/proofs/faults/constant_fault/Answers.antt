use Rattle.std.proofs.Common.{ap, ◌∙◌}
use Rattle.fp_type_forms.specs.Broken.{written_fault}
use Rattle.fp_type_forms.specs.Resolved.{value_resolved}
use Rattle.fp_type_forms.proofs.Breaking.{listed_taken_least}
use Rattle.fp_type_forms.proofs.faults.constant_fault.Goals as goal

pub returns : goal.returns
returns c source scope d position =
    listed_taken_least source c.args.marks.now c.args.resolutions.now scope d position c.args.constant.now c.args.next.now c.taken-found.new.next c.fault_of_value.result c.taken-found.ensures.moves
    (c.fault_of_value.ensures ∙ ap (written_fault c.args.constant.now.value) (c.value_of.ensures ∙ ap (value_resolved c.args.marks.now) c.taken-found.ensures.found))
