-- A conversion's result from what is made and from the cause, and the rule that it breaks.
use Rattle.std.proofs.Common.{◌≡◌, ℕ, List, Option, Some, None, refl, sym, subst}
use Rattle.std.specs.Prelude.{Result, Ok, Err, IsErrAnd}
use Rattle.fp_base.specs.Least.{broken_at, IsLeast}
use Rattle.fp_base.specs.declared.place.Place.{Place}
use Rattle.fp_base.specs.declared.refusal.Refusal.{Refusal}
use Rattle.fp_base.specs.declared.rule.Rule.TheVariants.{BadConversion, OutsideType, BadMember}
use Rattle.fp_base.specs.declared.value.Value.{Value}
use Rattle.fp_base.proofs.Calculus.{least_none, least_only, least_same}
use Rattle.fp_tables.specs.declared.kind.Kind.{Kind}
use Rattle.fp_type_sizes.specs.declared.written.WrittenType.{WrittenType}
use Rattle.fp_tables.specs.declared.kind.Kind.TheVariants as kind
use Rattle.fp_tables.specs.declared.kind.Form.{Form}
use Rattle.fp_type_sizes.specs.declared.written.Own.{Own}
use Rattle.fp_type_sizes.specs.declared.written.Own.TheVariants as own
use Rattle.fp_type_sizes.specs.Sizes.{HasForm, IsOfSize}
use Rattle.fp_type_sizes.proofs.OneSize.{one_form}
use Rattle.fp_types.specs.Converting.{Opened, Target, HasOwn}
use Rattle.fp_types.specs.Faults.{ConvertsToNothing, IsCause, Converted, Meets, lacks_member, is_outside, differs, Misfits, by_member, by_range, by_shape, IsBadDefault}
use Rattle.fp_types.specs.Meeting.{OwnMisfits}
use Rattle.fp_types.proofs.OneResult.{one_own}
use Rattle.fp_types.specs.declared.unfit.Unfit.{Unfit}
use Rattle.fp_types.specs.declared.unfit.Unfit.TheVariants as unfit

module _ (types : List WrittenType) (v : Value) (k : Kind) where
  pub nothing_for : (u : Unfit) → ConvertsToNothing types v k → IsCause types v k u → Converted types v k (Err u)
  nothing_for unfit.Member no_result cause = (no_result, cause)
  nothing_for unfit.Range no_result cause = (no_result, cause)
  nothing_for unfit.Shape no_result cause = (no_result, cause)
  nothing_for unfit.NoMemory no_result cause = absurd cause

  pub no_memory : (r : Result Value Unfit) → IsErrAnd r (λ u. u ≡ unfit.NoMemory) → Converted types v k r
  no_memory (Ok w) h = absurd h
  no_memory (Err u) h = subst (λ (x : Unfit). Converted types v k (Err x)) (sym h) tt

-- ---- the rule that a conversion breaks

module _ (ws : List WrittenType) (place : Place) (v : Opened) (t : Target) where
  pub least_member : Meets ws lacks_member v t → IsLeast (Misfits ws place v t) (Some (broken_at BadMember place))
  least_member m = least_only _ (by_member m) same
    where
      same : (f : Refusal) → Misfits ws place v t f → f ≡ broken_at BadMember place
      same f (by_member n) = refl
      same f (by_range none n) = absurd (none m)
      same f (by_shape none neither n) = absurd (none m)

  pub least_range : (Meets ws lacks_member v t → ⊥) → Meets ws is_outside v t → IsLeast (Misfits ws place v t) (Some (broken_at OutsideType place))
  least_range not m = least_only _ (by_range not m) same
    where
      same : (f : Refusal) → Misfits ws place v t f → f ≡ broken_at OutsideType place
      same f (by_member n) = absurd (not n)
      same f (by_range none n) = refl
      same f (by_shape none neither n) = absurd (neither m)

  pub least_shape : (Meets ws lacks_member v t → ⊥) → (Meets ws is_outside v t → ⊥) → Meets ws differs v t → IsLeast (Misfits ws place v t) (Some (broken_at BadConversion place))
  least_shape not nor m = least_only _ (by_shape not nor m) same
    where
      same : (f : Refusal) → Misfits ws place v t f → f ≡ broken_at BadConversion place
      same f (by_member n) = absurd (not n)
      same f (by_range none n) = absurd (nor n)
      same f (by_shape none neither n) = refl

  pub least_misfit_none : (Meets ws lacks_member v t → ⊥) → (Meets ws is_outside v t → ⊥) → (Meets ws differs v t → ⊥) → IsLeast (Misfits ws place v t) None
  least_misfit_none not nor same = least_none none
    where
      none : (f : Refusal) → Misfits ws place v t f → ⊥
      none f (by_member n) = not n
      none f (by_range m n) = nor n
      none f (by_shape m k n) = same n

-- ---- and the one that a default breaks

module _ (ws : List WrittenType) (i : ℕ) (place : Place) where
  pub default_unsized : (IsOfSize ws (kind.Named i) → ⊥) → IsLeast (IsBadDefault ws i place) None
  default_unsized not = least_none (λ f bad. not bad.of_size)

  pub default_unformed : ((f : Form) → HasForm ws i f → ⊥) → IsLeast (IsBadDefault ws i place) None
  default_unformed not = least_none (λ f bad. not bad.shape bad.form)

  pub default_formed : (own_ : Own) (shape : Form) (o : Option Refusal) → HasOwn ws i own_ → HasForm ws i shape → IsOfSize ws (kind.Named i)
      → IsLeast (OwnMisfits ws place own_ shape) o → IsLeast (IsBadDefault ws i place) o
  default_formed own.Unwritten shape o has form size h = least_same (λ f m. absurd m) (λ f bad. differ (one_own has bad.has)) h
    where
      differ : {u : Value} → own.Unwritten ≡ own.Has u → ⊥
      differ e = cc
  default_formed own.NoValue shape o has form size h = least_same (λ f m. absurd m) (λ f bad. differ (one_own has bad.has)) h
    where
      differ : {u : Value} → own.NoValue ≡ own.Has u → ⊥
      differ e = cc
  default_formed (own.Has v) shape o has form size h =
      least_same (λ f m. record { value = v; has = has; shape = shape; form = form; of_size = size; misfits = m }) (λ f bad. back f bad (one_own bad.has has) (one_form bad.form form)) h
    where
      back : (f : Refusal) (bad : IsBadDefault ws i place f) → own.Has bad.value ≡ own.Has v → bad.shape ≡ shape → OwnMisfits ws place (own.Has v) shape f
      back f bad e d = subst (λ (y : Form). OwnMisfits ws place (own.Has v) y f) d (subst (λ (y : Own). OwnMisfits ws place y bad.shape f) e bad.misfits)
