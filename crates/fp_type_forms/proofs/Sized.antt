-- What the test of a size says.
use Rattle.std.proofs.Common.{◌≡◌, ℕ, ◌≤◌, Bool, true, ℤ, pos, negsuc, refl, arith}
use Rattle.std.specs.Prelude.{int_le}
use Rattle.std.proofs.lemmas.Bool.Decides.{nat_tests}
use Rattle.fp_base.proofs.Bools.{both}
use Rattle.fp_type_forms.specs.Broken.{is_size}

pub size_number : (most : ℕ) (z : ℤ) → is_size most z ≡ true → (n : ℕ) × (z ≡ pos n) × (1 ≤ n) × (n ≤ most)
size_number most z h = let t = both (int_le (pos 1) z) (int_le z (pos most)) h in go z t.0 t.1
  where
    go : (z : ℤ) → int_le (pos 1) z ≡ true → int_le z (pos most) ≡ true → (n : ℕ) × (z ≡ pos n) × (1 ≤ n) × (n ≤ most)
    go (pos n) low high = (n, refl, grind (arith, nat_tests), grind (arith, nat_tests))
    go (negsuc n) low high = absurd (cc)
