-- What is said of a group of ends depends on which ends it has alone.
use Rattle.std.proofs.Common.{◌≡◌, ◌∙◌, ap, refl, sym, subst, ℕ, inl, inr, Bool, true, false, ◌&&◌, cond, List, [], ◌∷◌, length, Option, None, Some, slice_get, arith}
use Rattle.std.specs.Prelude.{ℤ, ◌==◌, unwrap_or}
use Rattle.std.specs.List.{list_any, list_all, find, filter_map, cons_option}
use Rattle.std.specs.Option.{option_and_then}
use Rattle.std.specs.Ordering.{int_eq}
use Rattle.std.proofs.lemmas.Cmp.{int_eq_equiv}
use Rattle.std.proofs.lemmas.Int.{ints}
use Rattle.fp_tables.specs.Lists.{some_and}
use Rattle.fp_base.proofs.Bools.{join, or_cases, or_left, or_right, same_truth}
use Rattle.fp_base.proofs.Numbers.{same_number, number_same}
use Rattle.fp_numbering.specs.declared.tips.Tip.{Tip}
use Rattle.fp_numbering.specs.Ends.{written_number, at_one_port}
use Rattle.fp_numbering.specs.Pairs.{has, places_from, is_at_first, matches_at, is_whole_by, is_whole, written_in, given_by, given, is_unwritten, first_of}
use Rattle.fp_numbering.specs.Numbers.{is_at_port_of}
use Rattle.fp_numbering.proofs.Joining.{Member}
use Rattle.fp_numbering.proofs.Unique.{both_left, both_right}

pub some_of : (test : ℕ → Bool) (g : List ℕ) → list_any test g ≡ true → (k : ℕ) × (has g k ≡ true) × (test k ≡ true)
some_of test [] h = cc
some_of test (n ∷ g) h =
    elim (or_cases (test n) (list_any test g) h) [
      | inl a ↦ (n, or_left (n == n) (has g n) (number_same n n refl), a)
      | inr b ↦ let r = some_of test g b in (r.0, or_right (n == r.0) (has g r.0) r.1, r.2)
    ]

pub of_some : (test : ℕ → Bool) (g : List ℕ) (k : ℕ) → has g k ≡ true → test k ≡ true → list_any test g ≡ true
of_some test [] k h e = cc
of_some test (n ∷ g) k h e =
    elim (or_cases (n == k) (has g k) h) [
      | inl a ↦ or_left (test n) (list_any test g) (ap test (same_number n k a) ∙ e)
      | inr b ↦ or_right (test n) (list_any test g) (of_some test g k b e)
    ]

all_of : (test : ℕ → Bool) (g : List ℕ) → list_all test g ≡ true → (k : ℕ) → has g k ≡ true → test k ≡ true
all_of test [] h k e = cc
all_of test (n ∷ g) h k e =
    elim (or_cases (n == k) (has g k) e) [
      | inl a ↦ ap test (sym (same_number n k a)) ∙ both_left (test n) (list_all test g) h
      | inr b ↦ all_of test g (both_right (test n) (list_all test g) h) k b
    ]

pub of_all : (test : ℕ → Bool) (g : List ℕ) → ((k : ℕ) → has g k ≡ true → test k ≡ true) → list_all test g ≡ true
of_all test [] each = refl
of_all test (n ∷ g) each =
    join (test n) (list_all test g) (each n (or_left (n == n) (has g n) (number_same n n refl))) (of_all test g (λ k e. each k (or_right (n == k) (has g k) e)))

-- ---- the numbers written in a group

pub written_from : (f : ℕ → Option ℤ) (g : List ℕ) (z : ℤ) → Member z (filter_map f g) → (k : ℕ) × (has g k ≡ true) × (f k ≡ Some z)
written_from f [] z m = absurd m
written_from f (n ∷ g) z m = part (f n) refl m (written_from f g z)
  where
    part : (o : Option ℤ) → f n ≡ o → Member z (cons_option o (filter_map f g)) → (Member z (filter_map f g) → (k : ℕ) × (has g k ≡ true) × (f k ≡ Some z)) → (k : ℕ) × (has (n ∷ g) k ≡ true) × (f k ≡ Some z)
    part None e m rest = let r = rest m in (r.0, or_right (n == r.0) (has g r.0) r.1, r.2)
    part (Some y) e (inl s) rest = (n, or_left (n == n) (has g n) (number_same n n refl), e ∙ ap (λ (x : ℤ). Some x) s)
    part (Some y) e (inr m) rest = let r = rest m in (r.0, or_right (n == r.0) (has g r.0) r.1, r.2)

member_cons : (o : Option ℤ) (zs : List ℤ) (z : ℤ) → Member z zs → Member z (cons_option o zs)
member_cons None zs z m = m
member_cons (Some y) zs z m = inr m

member_first : (o : Option ℤ) (zs : List ℤ) (z : ℤ) → o ≡ Some z → Member z (cons_option o zs)
member_first None zs z e = cc
member_first (Some y) zs z e = let same : y ≡ z = cc in inl same

pub to_written : (f : ℕ → Option ℤ) (g : List ℕ) (k : ℕ) (z : ℤ) → has g k ≡ true → f k ≡ Some z → Member z (filter_map f g)
to_written f [] k z h e = cc
to_written f (n ∷ g) k z h e =
    elim (or_cases (n == k) (has g k) h) [
      | inl a ↦ member_first (f n) (filter_map f g) z (ap f (same_number n k a) ∙ e)
      | inr b ↦ member_cons (f n) (filter_map f g) z (to_written f g k z b e)
    ]

pub int_same : (y z : ℤ) → int_eq y z ≡ true → y ≡ z
int_same y z e = grind (arith, ints)

same_int : (y z : ℤ) → y ≡ z → int_eq y z ≡ true
same_int y z e = subst (λ (x : ℤ). int_eq y x ≡ true) e (int_eq_equiv.refl y)

all_same : (z : ℤ) (zs : List ℤ) → list_all (int_eq z) zs ≡ true → (y : ℤ) → Member y zs → y ≡ z
all_same z [] h y m = absurd m
all_same z (x ∷ zs) h y (inl e) = sym e ∙ sym (int_same z x (both_left (int_eq z x) (list_all (int_eq z) zs) h))
all_same z (x ∷ zs) h y (inr m) = all_same z zs (both_right (int_eq z x) (list_all (int_eq z) zs) h) y m

same_all : (z : ℤ) (zs : List ℤ) → ((y : ℤ) → Member y zs → y ≡ z) → list_all (int_eq z) zs ≡ true
same_all z [] each = refl
same_all z (x ∷ zs) each = join (int_eq z x) (list_all (int_eq z) zs) (same_int z x (sym (each x (inl refl)))) (same_all z zs (λ y m. each y (inr m)))

pub gives : (zs : List ℤ) (z : ℤ) → given_by zs ≡ Some z → Member z zs × ((y : ℤ) → Member y zs → y ≡ z)
gives [] z e = cc
gives (x ∷ zs) z e = part (list_all (int_eq x) zs) refl e
  where
    part : (b : Bool) → list_all (int_eq x) zs ≡ b → cond b (Some x) None ≡ Some z → Member z (x ∷ zs) × ((y : ℤ) → Member y (x ∷ zs) → y ≡ z)
    part true h s = let same : x ≡ z = cc in (inl same, λ y m. elim m [ inl a ↦ sym a ∙ same | inr n ↦ all_same x zs h y n ∙ same ])
    part false h s = cc

pub gives_back : (zs : List ℤ) (z : ℤ) → Member z zs → ((y : ℤ) → Member y zs → y ≡ z) → given_by zs ≡ Some z
gives_back [] z m each = absurd m
gives_back (x ∷ zs) z m each =
    let same : x ≡ z = each x (inl refl) in
    ap (λ (b : Bool). cond b (Some x) None) (same_all x zs (λ y n. each y (inr n) ∙ sym same)) ∙ ap (λ (y : ℤ). Some y) same

pub same_option_of : (o q : Option ℤ) → ((z : ℤ) → o ≡ Some z → q ≡ Some z) → ((z : ℤ) → q ≡ Some z → o ≡ Some z) → o ≡ q
same_option_of None None f g = refl
same_option_of None (Some z) f g = g z refl
same_option_of (Some z) q f g = sym (f z refl)

pub no_members : (zs : List ℤ) → ((z : ℤ) → Member z zs → ⊥) → length zs ≡ 0
no_members [] h = refl
no_members (z ∷ zs) h = absurd (h z (inl refl))

pub members_none : (zs : List ℤ) → length zs ≡ 0 → (z : ℤ) → Member z zs → ⊥
members_none [] h z m = m
members_none (y ∷ zs) h z m = omega arith

module _ (matches : ℕ → List (ℕ × ℕ)) (ts : List Tip) where
  module _ (g h : List ℕ) (same : (k : ℕ) → has g k ≡ has h k) where
    there : (k : ℕ) → has g k ≡ true → has h k ≡ true
    there k e = sym (same k) ∙ e

    back : (k : ℕ) → has h k ≡ true → has g k ≡ true
    back k e = same k ∙ e

    pub any_same : (test : ℕ → Bool) → list_any test g ≡ list_any test h
    any_same test =
        same_truth _ _ (λ e. let r = some_of test g e in of_some test h r.0 (there r.0 r.1) r.2) (λ e. let r = some_of test h e in of_some test g r.0 (back r.0 r.1) r.2)

    pub all_same_of : (test : ℕ → Bool) → list_all test g ≡ list_all test h
    all_same_of test = same_truth _ _ (λ e. of_all test h (λ k m. all_of test g e k (back k m))) (λ e. of_all test g (λ k m. all_of test h e k (there k m)))

    pub whole_same : is_whole matches ts g ≡ is_whole matches ts h
    unfolding is_whole
    whole_same = all_same_of (λ k. some_and (λ (t : Tip). list_all (is_whole_by matches ts t) (matches_at matches ts t)) (slice_get ts k))

    pub ports_same : (t : Tip) → is_at_port_of ts g t ≡ is_at_port_of ts h t
    ports_same t = any_same (λ k. some_and (at_one_port t) (slice_get ts k))

    pub first_same : first_of matches ts g ≡ first_of matches ts h
    unfolding first_of
    first_same =
        let eq : ◌≡◌ {A = ℕ → Bool} (has g) (has h) = λ j k. same k j in
        ap (λ (p : ℕ → Bool). unwrap_or (find p (places_from 0 (is_at_first matches ts) ts)) 0) eq

    from_g : (z : ℤ) → Member z (written_in matches ts g) → Member z (written_in matches ts h)
    from_g z m = let r = written_from (λ k. option_and_then written_number (slice_get ts k)) g z m in to_written (λ k. option_and_then written_number (slice_get ts k)) h r.0 z (there r.0 r.1) r.2

    from_h : (z : ℤ) → Member z (written_in matches ts h) → Member z (written_in matches ts g)
    from_h z m = let r = written_from (λ k. option_and_then written_number (slice_get ts k)) h z m in to_written (λ k. option_and_then written_number (slice_get ts k)) g r.0 z (back r.0 r.1) r.2

    given_by_same : given_by (written_in matches ts g) ≡ given_by (written_in matches ts h)
    given_by_same =
        same_option_of _ _
        (λ z e. let r = gives (written_in matches ts g) z e in gives_back (written_in matches ts h) z (from_g z r.0) (λ y m. r.1 y (from_h y m)))
        (λ z e. let r = gives (written_in matches ts h) z e in gives_back (written_in matches ts g) z (from_h z r.0) (λ y m. r.1 y (from_g y m)))

    pub given_same : given matches ts g ≡ given matches ts h
    unfolding given
    given_same =
        ap (λ (b : Bool). cond b (given_by (written_in matches ts g)) None) whole_same
        ∙ ap (λ (o : Option ℤ). cond (is_whole matches ts h) o None) given_by_same

    empty_same : (length (written_in matches ts g) == 0) ≡ (length (written_in matches ts h) == 0)
    empty_same =
        same_truth _ _
        (λ e. number_same _ 0 (no_members (written_in matches ts h) (λ z m. members_none (written_in matches ts g) (same_number _ 0 e) z (from_h z m))))
        (λ e. number_same _ 0 (no_members (written_in matches ts g) (λ z m. members_none (written_in matches ts h) (same_number _ 0 e) z (from_g z m))))

    pub unwritten_same : is_unwritten matches ts g ≡ is_unwritten matches ts h
    unfolding is_unwritten
    unwritten_same =
        ap (λ (b : Bool). b && length (written_in matches ts g) == 0) whole_same ∙ ap (λ (b : Bool). is_whole matches ts h && b) empty_same
