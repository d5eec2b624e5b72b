-- What is broken by the one list of what is written of types is broken by the source.
use Rattle.std.proofs.Common.{◌≡◌, List, Option, inl, inr, sym, subst}
use Rattle.fp_base.specs.declared.refusal.Refusal.{Refusal}
use Rattle.fp_base.specs.Least.{Either, IsLeast, lesser_of}
use Rattle.fp_base.proofs.Calculus.{least_along, least_either, least_same}
use Rattle.fp_tree.specs.declared.source.Source.{Source}
use Rattle.fp_type_sizes.specs.declared.written.WrittenType.{WrittenType}
use Rattle.fp_meaning.specs.declared.item.Item.{Item}
use Rattle.fp_meaning.specs.Layout.{items}
use Rattle.fp_type_forms.specs.Broken.{FormsBroken}
use Rattle.fp_type_forms.specs.Written.{AreWritten}
use Rattle.fp_type_forms.proofs.OneForm.{one_list}
use Rattle.fp_base.specs.declared.value.Value.{Value}
use Rattle.fp_type_sizes.specs.declared.written.TypeExtent.{TypeExtent}
use Rattle.fp_type_sizes.specs.Found.{AreExtents}
use Rattle.fp_types.specs.Given.{AreDefaults}
use Rattle.fp_source_types.specs.declared.measuring.Measured.{Measured}
use Rattle.fp_source_types.specs.Broken.{TypesBroken, TypesBrokenBy, WholesBroken}
use Rattle.fp_source_types.specs.Measured.{IsMeasured}

-- slices of what is measured
pub sized_slices : (found : Measured) (ws : List WrittenType) (es : List (Option TypeExtent)) → ws ≡ found.written → es ≡ found.extents → IsMeasured found → AreExtents ws es
sized_slices found ws es types sizes h =
    subst (λ (vs : List WrittenType). AreExtents vs es) (sym types) (subst (λ (xs : List (Option TypeExtent)). AreExtents found.written xs) (sym sizes) h.sized)

pub defaulted_slices : (found : Measured) (ws : List WrittenType) (os : List (Option Value)) → ws ≡ found.written → os ≡ found.defaults → IsMeasured found → AreDefaults ws os
defaulted_slices found ws os types defaults h =
    subst (λ (vs : List WrittenType). AreDefaults vs os) (sym types) (subst (λ (xs : List (Option Value)). AreDefaults found.written xs) (sym defaults) h.defaulted)

pub least_of_source : (source : Source) (ws : List WrittenType) (o : Option Refusal) → AreWritten source ws → IsLeast (TypesBrokenBy source ws) o → IsLeast (TypesBroken source) o
least_of_source source ws o are least =
    least_same
    (λ f broken. record { written = ws; are = are; broken = broken })
    (λ f b. subst (λ (vs : List WrittenType). TypesBrokenBy source vs f) (one_list source b.written ws b.are are) b.broken)
    least

-- what is broken by forms and by the types each as a whole is broken by the types
module _ (source : Source) (ws : List WrittenType) where
  to_types : (f : Refusal) → Either (FormsBroken source ws) (WholesBroken (items source) ws) f → TypesBrokenBy source ws f
  to_types f (inl b) = inr (inl b)
  to_types f (inr (inl b)) = inl b
  to_types f (inr (inr b)) = inr (inr b)

  from_types : (f : Refusal) → TypesBrokenBy source ws f → Either (FormsBroken source ws) (WholesBroken (items source) ws) f
  from_types f (inl b) = inr (inl b)
  from_types f (inr (inl b)) = inl b
  from_types f (inr (inr b)) = inr (inr b)

  pub least_of_types : (is : List Item) (forms wholes o : Option Refusal) → is ≡ items source → o ≡ lesser_of forms wholes → IsLeast (FormsBroken source ws) forms
      → IsLeast (WholesBroken is ws) wholes → IsLeast (TypesBrokenBy source ws) o
  least_of_types is forms wholes o laid lesser of_forms of_wholes =
      least_same to_types from_types
      (least_along (sym lesser) (least_either forms wholes of_forms (subst (λ (js : List Item). IsLeast (WholesBroken js ws) wholes) laid of_wholes)))
