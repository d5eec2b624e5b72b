use Rattle.std.proofs.Common.{Option, sym, ap, ◌∙◌, subst}
use Rattle.fp_base.proofs.Calculus.{least_along, least_either}
use Rattle.fp_base.specs.declared.value.Value.{Value}
use Rattle.fp_base.specs.Least.{IsLeast}
use Rattle.fp_type_forms.specs.Broken.{value_fault}
use Rattle.fp_type_forms.specs.Resolved.{value_resolved}
use Rattle.fp_type_forms.proofs.Breaking.{least_number}
use Rattle.fp_type_forms.proofs.Taking.{taken_expression}
use Rattle.fp_part_values.specs.Broken.{IntegerIs}
use Rattle.fp_part_values.specs.Tested.{MisfitsIf}
use Rattle.fp_part_values.proofs.Fits.{unfit_least}
use Rattle.fp_part_values.proofs.channels.limit_fault.Goals as goal

pub returns : goal.returns
returns c source scope form wanted =
    let ws = c.args.types.now in
    let marks = c.args.marks.now in
    let rs = c.args.resolutions.now in
    let e = c.args.limit.now.value in
    taken_expression source marks rs 0 scope e c.args.next.now c.taken-found.new.next c.taken-found.ensures.moves
    (λ o is only.
    let found = c.value_of-value.ensures ∙ ap (value_resolved marks) c.taken-found.ensures.found ∙ is in
    least_along (sym c.lesser.ensures)
    (least_either c.if_no_number-wanted.result c.misfit_of-unfit.result
    (least_along (sym (c.if_no_number-wanted.ensures ∙ ap (value_fault e.at.first) found)) (least_number source scope e o only))
    (unfit_least source ws scope (IntegerIs source ws scope form) e c.args.kind o c.misfit_of-unfit.result wanted only
    (subst (λ (v : Option Value). IsLeast (MisfitsIf ws e.at.first c.args.kind v) c.misfit_of-unfit.result) found c.misfit_of-unfit.ensures))))
