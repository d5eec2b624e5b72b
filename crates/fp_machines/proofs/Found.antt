-- What is looked up and then looked up again.
use Rattle.std.proofs.Common.{◌≡◌, ℕ, false, Option, Some, None, refl, sym, ap, ◌∙◌}
use Rattle.std.specs.Prelude.{option_and_then}
use Rattle.fp_machines.specs.Found.{or_first}

pub none_then : (f : ℕ → Option ℕ) (o m : Option ℕ) → o ≡ m → o ≡ None → None ≡ option_and_then f m
none_then f None m e h = ap (option_and_then f) e
none_then f (Some k) m e h = absurd cc

pub some_then : (f : ℕ → Option ℕ) (o m : Option ℕ) (k : ℕ) (r : Option ℕ) → o ≡ m → o ≡ Some k → r ≡ f k → r ≡ option_and_then f m
some_then f None m k r e h q = absurd cc
some_then f (Some j) m k r e h q = q ∙ (ap f (sym (same h)) ∙ ap (option_and_then f) e)
  where
    same : ◌≡◌ {A = Option ℕ} (Some j) (Some k) → j ≡ k
    same x = cc

-- what holds of nothing takes no place
pub left_free : (had : Option ℕ) (at : ℕ) → had ≡ or_first had false at
left_free None at = refl
left_free (Some k) at = refl
