-- Numbers and what tests of them say, and numbers one after another.
use Rattle.std.proofs.Common.{◌≡◌, ℕ, zero, suc, ◌+◌, ◌*◌, ◌<◌, ◌≤◌, max, Bool, true, false, ◌==◌, ℤ, pos, List, [], ◌∷◌, ◌++◌, slice_get, replicate, Option, Some, None, refl, sym, ap, ◌∙◌, arith}
use Rattle.std.specs.Prelude.{nat_lt, nat_le}
use Rattle.fp_base.specs.Numbers.{numbers_from}
use Rattle.std.proofs.lemmas.Bool.Decides.{nat_tests}

pub same_number : (m n : ℕ) → (m == n) ≡ true → m ≡ n
same_number m n e = grind (arith, nat_tests)

pub number_same : (m n : ℕ) → m ≡ n → (m == n) ≡ true
number_same m n e = grind (arith, nat_tests)

pub number_itself : (n : ℕ) → (n == n) ≡ true
number_itself n = number_same n n refl

pub number_other : (m n : ℕ) → (m ≡ n → ⊥) → (m == n) ≡ false
number_other m n h = grind arith

pub at_most : (m n : ℕ) → nat_le m n ≡ true → m ≤ n
at_most m n e = grind (arith, nat_tests)

pub is_below : (m n : ℕ) → true ≡ nat_lt m n → m < n
is_below m n e = grind (arith, nat_tests)

pub below_told : (m n : ℕ) → m < n → nat_lt m n ≡ true
below_told m n h = grind (arith, nat_tests)

pub suc_is : (n : ℕ) → suc n ≡ 1 + n
suc_is n = omega arith

pub one_more : (n : ℕ) → suc n ≡ n + 1
one_more n = omega arith

pub none_before : (n : ℕ) → n ≡ 0 + n
none_before n = omega arith

pub none_behind : (n : ℕ) → n ≡ n + 0
none_behind n = omega arith

pub suc_times : (n a : ℕ) → suc n * a ≡ a + n * a
suc_times n a = grind arith

pub max_none : (n : ℕ) → max n 0 ≡ max 0 n
max_none n = omega arith

pub max_within : (m n k : ℕ) → m ≤ k → n ≤ k → max m n ≤ k
max_within m n k h g = omega arith

pub pos_same : (m n : ℕ) → pos m ≡ pos n → m ≡ n
pos_same m n e = cc

-- ---- one number many times

pub get_replicate : {A : Type 0} (n : ℕ) (x : A) (k : ℕ) → k < n → slice_get (replicate n x) k ≡ Some x
get_replicate zero x k h = absurd (omega arith)
get_replicate (suc n) x zero h = refl
get_replicate (suc n) x (suc k) h = get_replicate n x k (omega arith)

pub no_flag : (n k : ℕ) → slice_get (replicate n false) k ≡ Some true → ⊥
no_flag zero k e = cc
no_flag (suc n) zero e = cc
no_flag (suc n) (suc k) e = no_flag n k e

-- ---- numbers one after another

pub numbers_next : (first count number : ℕ) → number ≡ first + count → numbers_from first (suc count) ≡ numbers_from first count ++ number ∷ []
numbers_next first zero number is = let same : first ≡ number = omega arith in ap (λ (n : ℕ). n ∷ []) same
numbers_next first (suc count) number is = ap (λ (ns : List ℕ). first ∷ ns) (numbers_next (suc first) count number (omega arith))

pub numbers_more : (first count number : ℕ) (numbers more : List ℕ) → number ≡ first + count → more ≡ numbers ++ number ∷ [] → numbers ≡ numbers_from first count
    → more ≡ numbers_from first (count + 1)
numbers_more first count number numbers more is pushed h =
    pushed ∙ ap (λ (ns : List ℕ). ns ++ number ∷ []) h ∙ sym (numbers_next first count number is) ∙ ap (numbers_from first) (one_more count)

pub numbers_at : (first count k t : ℕ) → slice_get (numbers_from first count) k ≡ Some t → (t ≡ first + k) × (k < count)
numbers_at first zero k t e = absurd (cc)
numbers_at first (suc count) zero t e = let same : first ≡ t = cc in (omega arith, omega arith)
numbers_at first (suc count) (suc k) t e = let n = numbers_at (suc first) count k t e in let a = n.0 in let b = n.1 in (omega arith, omega arith)

pub numbers_get : (first count k t : ℕ) → k < count → t ≡ first + k → slice_get (numbers_from first count) k ≡ Some t
numbers_get first zero k t low is = absurd (omega arith)
numbers_get first (suc count) zero t low is = let same : first ≡ t = omega arith in ap Some same
numbers_get first (suc count) (suc k) t low is = numbers_get (suc first) count k t (omega arith) (omega arith)
