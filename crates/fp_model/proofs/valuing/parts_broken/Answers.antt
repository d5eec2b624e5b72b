use Rattle.std.proofs.Common.{List, Option, sym, subst}
use Rattle.fp_base.proofs.Calculus.{least_along, least_either}
use Rattle.fp_base.specs.Least.{IsLeast}
use Rattle.fp_type_sizes.specs.declared.written.TypeExtent.{TypeExtent}
use Rattle.fp_type_sizes.specs.declared.written.WrittenType.{WrittenType}
use Rattle.fp_type_sizes.specs.Found.{AreExtents}
use Rattle.fp_type_forms.specs.declared.resolving.Resolution.{Resolution}
use Rattle.fp_type_forms.specs.Resolved.{AreResolved}
use Rattle.fp_meaning.specs.declared.item.Item.{Item}
use Rattle.fp_part_values.specs.Broken.{PartValuesBroken}
use Rattle.fp_part_values.specs.Phases.{BrokenByItems, PhasesBroken}
use Rattle.fp_model.proofs.Judged.{conversions_least}
use Rattle.fp_model.proofs.valuing.parts_broken.Goals as goal

pub part_value_faults-conversions-requires : goal.part_value_faults-conversions-requires
part_value_faults-conversions-requires c =
    subst (λ (ws : List WrittenType). AreExtents ws c.as_slice-sizes.result.now) (sym c.as_slice-types.ensures)
    (subst (λ (xs : List (Option TypeExtent)). AreExtents c.args.measured.now.written xs) (sym c.as_slice-sizes.ensures) c.requires.sized)

pub returns : goal.returns
returns c source laid resolved written =
    let here = subst (λ (rs : List Resolution). AreResolved source c.args.values.now rs c.args.items.now 0) (sym c.as_slice-resolutions.ensures) resolved in
    let fits = subst (λ (ws : List WrittenType). IsLeast (PartValuesBroken source ws) c.part_value_faults-conversions.result) c.as_slice-types.ensures (c.part_value_faults-conversions.ensures source laid here) in
    let floats : IsLeast (PhasesBroken source) c.phase_faults-floats.result =
    subst (λ (is : List Item). IsLeast (BrokenByItems is) c.phase_faults-floats.result) laid c.phase_faults-floats.ensures in
    least_along (sym c.lesser.ensures)
    (least_either c.part_form_faults-forms.result c.lesser-others.result (c.part_form_faults-forms.ensures source laid here)
    (least_along (sym c.lesser-others.ensures)
    (least_either c.part_value_faults-conversions.result c.phase_faults-floats.result
    (conversions_least source c.args.measured.now.written c.part_value_faults-conversions.result written fits) floats)))
