-- Lemmas on priorities, and on the places of queues.
use Rattle.std.proofs.Common.{◌≡◌, ◌+◌, Bool, true, false, cond, List, [], ◌∷◌, length, refl, ◌∙◌, arith}
use Rattle.std.specs.Prelude.{ℤ, pos, negsuc}
use Rattle.std.specs.List.{list_any}
use Rattle.std.specs.Set.{distinct_count, unique_keys, is_member}
use Rattle.std.specs.Ordering.{int_cmp, eq_by_cmp}
use Rattle.std.specs.BTreeSet.{BTreeSet, IsFromIterResult, btree_set_len}
use Rattle.std.proofs.lemmas.Bool.Decides.{nat_tests}
use Rattle.std.proofs.lemmas.Cmp.{int_cmp_total}
use Rattle.std.proofs.lemmas.Map.Views.{btree_set_len-from_list}
use Rattle.fp_base.specs.Same.{same_int}
use Rattle.fp_tables.specs.SoundPrograms.{count_different}

same_ints : (x y : ℤ) → eq_by_cmp int_cmp x y ≡ same_int x y
same_ints (pos m) (pos n) = grind (arith, nat_tests)
same_ints (pos m) (negsuc n) = refl
same_ints (negsuc m) (pos n) = refl
same_ints (negsuc m) (negsuc n) = grind (arith, nat_tests)

same_any : (x : ℤ) (xs : List ℤ) → list_any (eq_by_cmp int_cmp x) xs ≡ list_any (same_int x) xs
same_any x [] = refl
same_any x (y ∷ ys) = rw (same_ints x y, same_any x ys) refl

same_member : (x : ℤ) (xs : List ℤ) → is_member (eq_by_cmp int_cmp) xs x ≡ list_any (same_int x) xs
same_member x [] = refl
same_member x (y ∷ ys) = rw (same_ints x y, same_any x ys) refl

pub counted : (xs : List ℤ) → distinct_count (eq_by_cmp int_cmp) xs ≡ count_different xs
counted [] = refl
counted (x ∷ xs) = rw (same_member x xs) (one_more (list_any (same_int x) xs) (counted xs))
  where
    one_more : (b : Bool) → distinct_count (eq_by_cmp int_cmp) xs ≡ count_different xs →
        length (cond b (unique_keys (eq_by_cmp int_cmp) xs) (x ∷ unique_keys (eq_by_cmp int_cmp) xs)) ≡ cond b 0 1 + count_different xs
    one_more true e = omega arith
    one_more false e = omega arith

pub set_counted : (xs : List ℤ) (n : BTreeSet ℤ) → IsFromIterResult int_cmp xs n → btree_set_len n ≡ count_different xs
set_counted xs n made = btree_set_len-from_list int_cmp_total xs n made ∙ counted xs
