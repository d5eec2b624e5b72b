use Rattle.std.proofs.Common.{slice_get, ap, ◌∙◌}
use Rattle.std.specs.Prelude.{option_and_then}
use Rattle.fp_meaning.specs.Values.{number_in}
use Rattle.fp_type_forms.proofs.Taking.{taken_expression, number_valued}
use Rattle.fp_type_forms.specs.Resolved.{value_resolved}
use Rattle.fp_type_forms.proofs.reading.number_taken.Goals as goal

pub returns-clause-takes : goal.returns-clause-takes
returns-clause-takes c source scope since e =
    taken_expression source c.args.marks.now c.args.resolutions.now since scope e c.args.next.now c.taken-found.new.next c.taken-found.ensures.moves
    (λ o is only. number_valued source c.args.marks.now c.args.resolutions.now scope e o c.number_of.result (value_resolved c.args.marks.now (slice_get c.args.resolutions.now c.args.next.now)) is
    (c.number_of.ensures ∙ ap (option_and_then number_in) (c.value_of.ensures ∙ ap (value_resolved c.args.marks.now) c.taken-found.ensures.found)) only)
