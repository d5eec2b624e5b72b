use Rattle.std.proofs.Common.{List, Option, sym, subst}
use Rattle.fp_base.specs.declared.value.Value.{Value}
use Rattle.fp_type_sizes.specs.declared.written.WrittenType.{WrittenType}
use Rattle.fp_type_sizes.specs.declared.written.TypeExtent.{TypeExtent}
use Rattle.fp_type_sizes.specs.Found.{AreExtents}
use Rattle.fp_types.specs.Given.{AreDefaults}
use Rattle.fp_source_types.proofs.measuring.measured_with.Goals as goal

pub returns-clause-measured : goal.returns-clause-measured
returns-clause-measured c = record {
  few = c.requires;
  sized = subst (λ (ws : List WrittenType). AreExtents ws c.from_vec-sized.result) c.as_slice-types.ensures
      (subst (λ (es : List (Option TypeExtent)). AreExtents c.as_slice-types.result.now es) (sym c.from_vec-sized.ensures) c.in_ok-sizes.ensures);
  defaulted = subst (λ (ws : List WrittenType). AreDefaults ws c.from_vec-defaulted.result) c.as_slice-types.ensures
      (subst (λ (vs : List (Option Value)). AreDefaults c.as_slice-types.result.now vs) (sym c.from_vec-defaulted.ensures) c.in_ok-found.ensures);
}
