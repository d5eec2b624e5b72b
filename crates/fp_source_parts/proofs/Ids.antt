-- Where each id that is written is a number, and none is past the 32 bits, each of a list has an id.
use Rattle.std.proofs.Common.{◌≡◌, ℕ, zero, suc, ◌<◌, ◌^◌, ◌-◌, Bool, true, false, ℤ, pos, negsuc, ◌+ℤ◌, List, slice_get, Option, Some, None, refl, inr, arith, subst}
use Rattle.std.specs.Prelude.{int_le}
use Rattle.std.proofs.lemmas.Bool.Decides.{nat_tests}
use Rattle.std.proofs.lemmas.Option.{slice_get_within}
use Rattle.fp_base.proofs.Bools.{both}
use Rattle.fp_base.proofs.Spots.{item_below}
use Rattle.fp_base.specs.Least.{IsUnbroken}
use Rattle.fp_written_parts.specs.declared.port.Given.{Given}
use Rattle.fp_dictdefs.specs.declared.listed.Listed.{Listed}
use Rattle.fp_dictdefs.specs.Broken.{BrokenList, is_within}
use Rattle.fp_dictdefs.specs.Ids.{HasId, IsGivenOr, IsImplied}
use Rattle.fp_components.specs.Whole.{HaveIds}

-- a number that is written is there
abbrev pub GivenThere : Option Given → Type 0
GivenThere None = Unit {0}
GivenThere (Some g) = (n : ℤ) × (g.number ≡ Some n)

abbrev pub AreGiven : List Listed → Type 0
AreGiven xs = (k : ℕ) (x : Listed) → slice_get xs k ≡ Some x → GivenThere x.id

module _ (xs : List Listed) (given : AreGiven xs) where
  by_given : (implied : ℤ → Type 0) (n : ℤ) → implied n → (o : Option Given) → GivenThere o → (m : ℤ) × IsGivenOr implied o m
  by_given implied n h None t = (n, h)
  by_given implied n h (Some g) t = t

  some_id : (k : ℕ) (x : Listed) → slice_get xs k ≡ Some x → (n : ℤ) × HasId xs k n
  some_id zero x at = let m = by_given (IsImplied xs 0) (pos 0) refl x.id (given 0 x at) in (m.0, (x, at, m.1))
  some_id (suc k) x at =
      let low = slice_get_within xs (suc k) x at in
      let before = item_below xs k (omega (arith, low)) in
      let last = some_id k before.0 before.1 in
      let m = by_given (IsImplied xs (suc k)) (last.0 +ℤ pos 1) (last.0, last.1, refl) x.id (given (suc k) x at) in
      (m.0, (x, at, m.1))

  of_32_bits : (z : ℤ) → is_within (pos 0) (pos (2 ^ 32 - 1)) z ≡ true → (id : ℕ) × (id < 2 ^ 32) × (z ≡ pos id)
  of_32_bits (pos n) h = let t = both (int_le (pos 0) (pos n)) (int_le (pos n) (pos (2 ^ 32 - 1))) h in (n, below n t.1, refl)
    where
      below : (n : ℕ) → int_le (pos n) (pos (2 ^ 32 - 1)) ≡ true → n < 2 ^ 32
      below n e = grind (arith, nat_tests)
  of_32_bits (negsuc n) h = absurd (cc)

  pub have_ids : IsUnbroken (BrokenList xs) → HaveIds xs
  have_ids unbroken k x at = go (is_within (pos 0) (pos (2 ^ 32 - 1)) n.0) refl
    where
      n : (m : ℤ) × HasId xs k m
      n = some_id k x at

      go : (b : Bool) → is_within (pos 0) (pos (2 ^ 32 - 1)) n.0 ≡ b → (id : ℕ) × (id < 2 ^ 32) × HasId xs k (pos id)
      go true e = let t = of_32_bits n.0 e in (t.0, t.1, subst (HasId xs k) t.2 n.1)
      go false e = absurd (unbroken _ (inr (k, x, at, inr (refl, (n.0, n.1, e)))))
