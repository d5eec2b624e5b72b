-- The numbers of a set are its list's, each once.
use Rattle.std.proofs.Common.{◌≡◌, ◌≢◌, ℤ, List, Less, Equal, get_or}
use Rattle.std.specs.BTreeSet.{BTreeSet, IsFromIterResult}
use Rattle.std.specs.Cmp.{int_cmp_is}
use Rattle.std.specs.List.{AllPairs, Contains}
use Rattle.std.specs.List.Sorted.{IsStrictlySortedBy}
use Rattle.std.specs.Ordering.{int_cmp}
use Rattle.std.proofs.lemmas.Cmp.{int_cmp_total}
use Rattle.std.proofs.lemmas.Map.Keys.{Less-from_sorted}
use Rattle.std.proofs.lemmas.Map.Lookups.{exact_signed}
use Rattle.std.proofs.lemmas.Map.Views.{btree_set_contains_iff, btree_set_contains_from_list}

pub numbers_differ : (ks : List ℤ) → IsStrictlySortedBy int_cmp ks → AllPairs (λ a b. a ≢ b) ks
numbers_differ ks sorted i j d below within same = not_both (Less-from_sorted int_cmp ks i j d sorted below within) (int_cmp_is (get_or ks i d) (get_or ks j d) Equal same)
  where
    not_both : int_cmp (get_or ks i d) (get_or ks j d) ≡ Less → Equal ≡ int_cmp (get_or ks i d) (get_or ks j d) → ⊥
    not_both less equal = absurd (cc)

pub kept_all : (xs : List ℤ) (n : BTreeSet ℤ) → IsFromIterResult int_cmp xs n → (q : ℤ) → Contains xs q → Contains n.keys q
kept_all xs n made q has = (btree_set_contains_iff int_cmp_total exact_signed n q).0 ((btree_set_contains_from_list int_cmp_total exact_signed xs n made q).1 has)
