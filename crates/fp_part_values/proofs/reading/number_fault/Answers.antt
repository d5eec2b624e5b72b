use Rattle.std.proofs.Common.{ap, ◌∙◌}
use Rattle.fp_type_forms.specs.Broken.{value_fault}
use Rattle.fp_type_forms.specs.Resolved.{value_resolved}
use Rattle.fp_part_values.proofs.Joining.{number_taken_least}
use Rattle.fp_part_values.proofs.reading.number_fault.Goals as goal

pub returns : goal.returns
returns c source scope since =
    let e = c.args.expression.now in
    number_taken_least source c.args.marks.now c.args.resolutions.now scope since e c.args.next.now c.taken-found.new.next c.if_no_number.result c.taken-found.ensures.moves
    (c.if_no_number.ensures ∙ ap (value_fault e.at.first) (c.value_of.ensures ∙ ap (value_resolved c.args.marks.now) c.taken-found.ensures.found))
