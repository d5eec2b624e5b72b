-- Lists without repetition.
use Rattle.std.proofs.Common.{◌≡◌, ◌↔◌, ℕ, Bool, true, false, List, [], ◌∷◌, map, length, Ordering, sym, ap, ◌∙◌, refl, eqb, arith}
use Rattle.std.specs.List.{IsDistinct, AllByRecursion, list_any}
use Rattle.std.specs.Bool.{Decides}
use Rattle.std.specs.Cmp.{IsTotalOrder}
use Rattle.std.specs.Cmp.Lexicographic.{slice_cmp}
use Rattle.std.specs.Ordering.{eq_by_cmp, nat_cmp}
use Rattle.std.specs.Str.{bytes_eq}
use Rattle.std.specs.BTreeSet.{BTreeSet, IsFromIterResult, btree_set_len}
use Rattle.std.proofs.lemmas.Cmp.{eq_by_cmp_equiv}
use Rattle.std.proofs.lemmas.Bool.Decides.{nat_tests}
use Rattle.std.proofs.lemmas.Map.Made.{IsDistinct-from_count, distinct_count-from_IsDistinct}
use Rattle.std.proofs.lemmas.Map.Views.{btree_set_len-from_list}
use Rattle.std.proofs.lemmas.Map.Text.{is_eq-slice_cmp}
use Rattle.fp_base.proofs.Mapped.{map_itself}
use Rattle.fp_tables.specs.Lists.{apart}
use Rattle.fp_tables.specs.Names.{texts_differ, numbers_differ}
use denote.Ref.{Bor}

module _ {K : Type 0} (e : K → K → Bool) where
  none_of : (k : K) (ks : List K) → AllByRecursion (λ c. e k c ≡ false) ks → list_any (e k) ks ≡ false
  none_of k [] h = refl
  none_of k (c ∷ ks) h = rw (h.0) (none_of k ks h.1)

  all_of : (k : K) (ks : List K) → list_any (e k) ks ≡ false → AllByRecursion (λ c. e k c ≡ false) ks
  all_of k [] h = tt
  all_of k (c ∷ ks) h = (grind arith, all_of k ks (grind arith))

  apart_from : (ks : List K) → IsDistinct e ks → apart e ks ≡ true
  unfolding IsDistinct
  apart_from [] h = refl
  apart_from (k ∷ ks) h = rw (none_of k ks h.0) (apart_from ks h.1)

  from_apart : (ks : List K) → apart e ks ≡ true → IsDistinct e ks
  unfolding IsDistinct
  from_apart [] h = tt
  from_apart (k ∷ ks) h = (all_of k ks (grind arith), from_apart ks (grind arith))

  pub apart-Decides : (ks : List K) → Decides (apart e ks) (IsDistinct e ks)
  apart-Decides ks = (from_apart ks, apart_from ks)

pub distinct_count : {K : Type 0} {R : K → K → Ordering} (o : IsTotalOrder R) (xs : List K) (n : BTreeSet K) → IsFromIterResult R xs n →
    (btree_set_len n ≡ length xs) ↔ (apart (eq_by_cmp R) xs ≡ true)
distinct_count {R = R} o xs n made =
    let same = btree_set_len-from_list o xs n made in
    let d = apart-Decides (eq_by_cmp R) xs in (
      λ h. d.1 (IsDistinct-from_count (eq_by_cmp_equiv o) xs (sym same ∙ h)),
      λ h. same ∙ distinct_count-from_IsDistinct (eq_by_cmp_equiv o) xs (d.0 h),
    )

module _ {K A : Type 0} (e : K → K → Bool) (f : A → A → Bool) (h : K → A) (same : (x y : K) → e x y ≡ f (h x) (h y)) where
  any_of : (k : K) (ks : List K) → list_any (e k) ks ≡ list_any (f (h k)) (map h ks)
  any_of k [] = refl
  any_of k (c ∷ ks) = rw (same k c, any_of k ks) refl

  pub apart-map : (ks : List K) → apart e ks ≡ apart f (map h ks)
  apart-map [] = refl
  apart-map (k ∷ ks) = rw (any_of k ks, apart-map ks) refl

abbrev same_str : Bor (List ℕ) → Bor (List ℕ) → Bool
same_str = eq_by_cmp (λ x y. slice_cmp nat_cmp x.now y.now)

pub differ_texts : (bs : List (Bor (List ℕ))) → apart same_str bs ≡ texts_differ (map (λ b. b.now) bs)
differ_texts = apart-map same_str bytes_eq (λ b. b.now) (λ x y. is_eq-slice_cmp x.now y.now)

pub differ_numbers : (ns : List ℕ) → apart (eq_by_cmp nat_cmp) ns ≡ numbers_differ ns
differ_numbers ns = apart-map (eq_by_cmp nat_cmp) (λ m n. eqb m n) (λ n. n) (λ x y. grind (arith, nat_tests)) ns ∙ ap numbers_differ (map_itself ns)
