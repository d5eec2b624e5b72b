-- What is the least of phases, and that none of them is broken.
use Rattle.std.proofs.Common.{inl, inr, [], ◌∷◌, Option}
use Rattle.fp_base.specs.declared.refusal.Refusal.{Refusal}
use Rattle.fp_base.specs.Least.{IsLeast, IsUnbroken, Phased}
use Rattle.fp_base.proofs.Calculus.{least_same}
use Rattle.fp_model.specs.Phases.{InPhases}

-- that of the later ones, where the first isn't broken
pub least_later : {P Q : Refusal → Type 0} (o : Option Refusal) → IsUnbroken P → IsLeast Q o → IsLeast (Phased P Q) o
least_later o none l = record { holds = λ g e. inr (l.holds g e, none); least = λ g. elim [ inl p ↦ absurd (none g p) | inr q ↦ l.least g q.0 ] }

-- that of the last
pub least_last : {P : Refusal → Type 0} (o : Option Refusal) → IsLeast P o → IsLeast (InPhases (P ∷ [])) o
least_last o l = least_same (λ f p. inl p) (λ f. elim [ inl p ↦ p | inr q ↦ absurd q.0 ]) l

module _ {P Q : Refusal → Type 0} where
  -- of a phase and those behind it
  pub none_phased : IsUnbroken P → IsUnbroken Q → IsUnbroken (Phased P Q)
  none_phased none no_later f (inl p) = none f p
  none_phased none no_later f (inr q) = no_later f q.0

  pub first_unbroken : IsUnbroken (Phased P Q) → IsUnbroken P
  first_unbroken none f p = none f (inl p)

  pub later_unbroken : IsUnbroken (Phased P Q) → IsUnbroken Q
  later_unbroken none f q = none f (inr (q, λ g p. none g (inl p)))
