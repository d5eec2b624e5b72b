use Rattle.std.proofs.Common.{slice_get}
use Rattle.fp_type_forms.proofs.Taking.{taken_expression, number_valued, size_numbered}
use Rattle.fp_type_forms.specs.Resolved.{value_resolved}
use Rattle.fp_type_forms.proofs.reading.size_taken.Goals as goal

pub returns : goal.returns
returns c source scope since e =
    taken_expression source c.args.marks.now c.args.resolutions.now since scope e c.args.next.now c.number_taken-number.new.next c.number_taken-number.ensures.moves
    (λ o is only. size_numbered source c.args.marks.now c.args.resolutions.now c.args.most scope e c.number_taken-number.result c.size_to.result
    (number_valued source c.args.marks.now c.args.resolutions.now scope e o c.number_taken-number.result (value_resolved c.args.marks.now (slice_get c.args.resolutions.now c.args.next.now)) is c.number_taken-number.ensures.number only) c.size_to.ensures)
