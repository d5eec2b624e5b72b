-- Tests of lists, from what holds of their items.
use Rattle.std.proofs.Common.{◌≡◌, ℕ, zero, suc, ◌+◌, ◌<◌, Bool, true, false, not, ◌==◌, cond, List, [], ◌∷◌, map, Option, Some, None, refl, ap, ap₂, ◌∙◌, sym, arith}
use Rattle.std.specs.Prelude.{slice_get}
use Rattle.std.specs.List.{cons_option, filter, filter_map, list_any}
use Rattle.fp_base.proofs.Mapped.{map_itself}
use Rattle.fp_base.proofs.Bools.{join, not_either}
use Rattle.fp_base.proofs.Options.{same_some}
use Rattle.fp_base.proofs.Numbers.{same_number}
use Rattle.fp_base.specs.Numbers.{numbers_from}
use Rattle.fp_tables.specs.Lists.{apart, some_and}
use Rattle.fp_tables.specs.Names.{numbers_differ}
use Rattle.fp_tables.proofs.Optional.{some_and_of}
use Rattle.fp_tables.proofs.Indexed.{mapped_apart}

-- ---- no two are equal

-- no two at different places are the same
abbrev pub AreApart : {A : Type 0} → (A → A → Type 0) → List A → Type 0
AreApart {A = A} Same xs = (j k : ℕ) (x y : A) → j < k → slice_get xs j ≡ Some x → slice_get xs k ≡ Some y → Same x y → ⊥

-- both are there and the test holds of them
abbrev pub both_and : {B : Type 0} → (B → B → Bool) → Option B → Option B → Bool
both_and test s t = some_and (λ x. some_and (test x) t) s

pub both_back : {B : Type 0} (test : B → B → Bool) (s t : Option B) → both_and test s t ≡ true → (x y : B) × (s ≡ Some x) × (t ≡ Some y) × (test x y ≡ true)
both_back test None t h = absurd (cc)
both_back test (Some x) t h = let r = some_and_of (test x) t h in (x, r.0, refl, r.1, r.2)

none_there : {B : Type 0} (test : B → Bool) (o : Option B) (bs : List B) → (some_and test o ≡ true → ⊥) → not (list_any test bs) ≡ true
    → not (list_any test (cons_option o bs)) ≡ true
none_there test None bs h rest = rest
none_there test (Some b) bs h rest = not_either (test b) (list_any test bs) h rest

none_chosen : {A B : Type 0} (test : B → Bool) (f : A → Option B) (xs : List A) → ((k : ℕ) (y : A) → slice_get xs k ≡ Some y → some_and test (f y) ≡ true → ⊥)
    → not (list_any test (filter_map f xs)) ≡ true
none_chosen test f [] h = refl
none_chosen test f (y ∷ ys) h = none_there test (f y) (filter_map f ys) (h zero y refl) (none_chosen test f ys (λ k z e. h (suc k) z e))

one_more : {B : Type 0} (test : B → B → Bool) (o : Option B) (bs : List B) → ((b : B) → o ≡ Some b → not (list_any (test b) bs) ≡ true) → apart test bs ≡ true
    → apart test (cons_option o bs) ≡ true
one_more test None bs h rest = rest
one_more test (Some b) bs h rest = join (not (list_any (test b) bs)) (apart test bs) (h b refl) rest

pub chosen_apart : {A B : Type 0} (test : B → B → Bool) (f : A → Option B) (xs : List A) → AreApart (λ x y. both_and test (f x) (f y) ≡ true) xs
    → apart test (filter_map f xs) ≡ true
chosen_apart test f [] h = refl
chosen_apart test f (x ∷ xs) h =
    one_more test (f x) (filter_map f xs)
    (λ b is. none_chosen (test b) f xs (λ k y e same. h zero (suc k) x y (omega arith) refl e (ap (λ o. both_and test o (f y)) is ∙ same)))
    (chosen_apart test f xs (λ j k y z low d e same. h (suc j) (suc k) y z (omega arith) d e same))

one_filtered : {A B : Type 0} (b : Bool) (y : B) (f : A → B) (x : A) (xs : List A) (ys : List B) → f x ≡ y → map f xs ≡ ys
    → map f (cond b (x ∷ xs) xs) ≡ cons_option (cond b (Some y) None) ys
one_filtered true y f x xs ys is rest = ap₂ (λ z zs. z ∷ zs) is rest
one_filtered false y f x xs ys is rest = rest

-- those that pass a test, by a part of them
pub filtered : {A B : Type 0} (p : A → Bool) (f : A → B) (xs : List A) → map f (filter p xs) ≡ filter_map (λ x. cond (p x) (Some (f x)) None) xs
filtered p f [] = refl
filtered p f (x ∷ xs) = one_filtered (p x) (f x) f x (filter p xs) (filter_map (λ x. cond (p x) (Some (f x)) None) xs) refl (filtered p f xs)

-- ---- numbers

number_at : (first count k n : ℕ) → slice_get (numbers_from first count) k ≡ Some n → n ≡ first + k
number_at first zero k n e = absurd (cc)
number_at first (suc count) zero n e = let same : first ≡ n = same_some e in omega arith
number_at first (suc count) (suc k) n e = let same : n ≡ suc first + k = number_at (suc first) count k n e in omega arith

pub numbers_differ_from : (first count : ℕ) → numbers_differ (numbers_from first count) ≡ true
numbers_differ_from first count =
    ap numbers_differ (sym (map_itself (numbers_from first count)))
    ∙ mapped_apart (λ m n. m == n) (λ n. n) (numbers_from first count)
    (λ j k m n low d e same.
    let a : m ≡ first + j = number_at first count j m d in
    let b : n ≡ first + k = number_at first count k n e in
    let c : m ≡ n = same_number m n same in
    omega arith)
