-- The least by a test that fails.
use Rattle.std.proofs.Common.{◌≡◌, ◌↔◌, Bool, true, false, cond, Option, Some, None, not, refl, sym, ap, ◌∙◌}
use Rattle.fp_base.specs.declared.refusal.Refusal.{Refusal}
use Rattle.fp_base.specs.Least.{IsLeast}
use Rattle.fp_base.proofs.Calculus.{least_along, least_if}

-- one refusal where a test fails
pub least_where_false : (b s : Bool) (f : Refusal) (o : Option Refusal) → s ≡ b → o ≡ cond (not s) (Some f) None → IsLeast (λ g. (g ≡ f) × (b ≡ false)) o
least_where_false b s f o same is = least_along (sym (is ∙ ap (λ (t : Bool). cond (not t) (Some f) None) same)) (least_if (not b) f (fails b) (holds b))
  where
    fails : (t : Bool) → not t ≡ true → t ≡ false
    fails true h = absurd (cc)
    fails false h = refl

    holds : (t : Bool) → not t ≡ false → t ≡ false → ⊥
    holds true h e = absurd (cc)
    holds false h e = absurd (cc)
