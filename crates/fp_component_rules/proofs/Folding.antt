-- The least where a place may be missing, and what tests say together.
use Rattle.std.proofs.Common.{◌≡◌, ◌∙◌, ◌↔◌, Bool, true, false, not, ◌&&◌, ◌||◌, MatchBool, Option, Some, None, refl, sym}
use Rattle.fp_base.specs.declared.place.Place.{Place}
use Rattle.fp_base.specs.declared.rule.Rule.{Rule}
use Rattle.fp_base.specs.Least.{BrokenAt, ByOptional, IsLeast, broken_at}
use Rattle.fp_base.proofs.Calculus.{least_if, least_none}
use Rattle.fp_base.proofs.Bools.{not_both}
use Rattle.fp_component_rules.specs.Tested.{fault_at}

-- the same where there is a place
pub least_placed : (Q : Type 0) (b : Bool) (rule : Rule) (place : Option Place) → (b ≡ true) ↔ Q → IsLeast (ByOptional (λ at. BrokenAt rule at Q) place) (fault_at b rule place)
least_placed Q b rule None h = least_none (λ f q. q)
least_placed Q b rule (Some at) h = least_if b (broken_at rule at) h.0 (λ e q. not_both (h.1 q) e)

-- ---- tests

pub flag_told : {P : Type 0} (b : Bool) → MatchBool b P (P → ⊥) → (b ≡ true) ↔ P
flag_told true h = (λ e. h, λ p. refl)
flag_told false h = (λ e. absurd (cc), λ p. absurd (h p))

pub neither_told : {P Q : Type 0} (a b : Bool) → (a ≡ true) ↔ P → (b ≡ true) ↔ Q → (not (a || b) ≡ true) ↔ ((P → ⊥) × (Q → ⊥))
neither_told true b p q = (λ e. absurd (cc), λ t. absurd (t.0 (p.0 refl)))
neither_told false true p q = (λ e. absurd (cc), λ t. absurd (t.1 (q.0 refl)))
neither_told false false p q = (λ e. (λ x. not_both (p.1 x) refl, λ y. not_both (q.1 y) refl), λ t. refl)

pub but_told : {P Q : Type 0} (a b : Bool) → (a ≡ true) ↔ P → (b ≡ true) ↔ Q → ((a && not b) ≡ true) ↔ (P × (Q → ⊥))
but_told false b p q = (λ e. absurd (cc), λ t. not_both (p.1 t.0) refl)
but_told true true p q = (λ e. absurd (cc), λ t. absurd (t.1 (q.0 refl)))
but_told true false p q = (λ e. (p.0 refl, λ y. not_both (q.1 y) refl), λ t. refl)

pub told_along : {a b : Bool} {P : Type 0} → a ≡ b → (b ≡ true) ↔ P → (a ≡ true) ↔ P
told_along is p = (λ e. p.0 (sym is ∙ e), λ x. is ∙ p.1 x)
