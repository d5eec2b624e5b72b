-- A key more in an ordered set, and a name more in a set of names.
use Rattle.std.proofs.Common.{◌≡◌, ◌∙◌, ℕ, Bool, true, false, ◌||◌, List, [], ◌∷◌, Ordering, Less, Equal, Greater, nat_cmp, is_eq, bytes_eq, refl, sym, ap}
use Rattle.std.specs.BTreeSet.{BTreeSet, contains_by, insert_key}
use Rattle.std.specs.BTreeMap.{is_at}
use Rattle.std.specs.List.{list_any}
use Rattle.std.specs.Ordering.{match_ordering}
use Rattle.std.specs.Cmp.Lexicographic.{slice_cmp}
use Rattle.std.proofs.Math.Bool.{or-false}
use Rattle.std.proofs.lemmas.Map.Text.{is_eq-slice_cmp}
use Rattle.std.proofs.lemmas.Map.Lookups.{exact_bytes}
use denote.Ref.{Bor}
use Rattle.fp_base.specs.NameSets.{has_name}

moved : (a b c : Bool) → (a || (b || c)) ≡ ((b || c) || a)
moved true true c = refl
moved true false true = refl
moved true false false = refl
moved false true c = refl
moved false false true = refl
moved false false false = refl

kept : (a b c : Bool) → a ≡ b → (b || c) ≡ ((b || c) || a)
kept a true c e = refl
kept a false true e = refl
kept a false false e = sym e

turned : (a b c : Bool) → (b || (c || a)) ≡ ((b || c) || a)
turned a true c = refl
turned a false c = refl

-- where equal keys are found by the same queries
module _ {K : Type 0} (cmp : K → K → Ordering) (query : K → Ordering) (k : K) (exact : (x : K) → cmp k x ≡ Equal → is_eq (query k) ≡ is_eq (query x)) where
  inserted_by : (x : K) (ks : List K) (o : Ordering) → cmp k x ≡ o → list_any (is_at query) (insert_key cmp ks k) ≡ (list_any (is_at query) ks || is_eq (query k))
      → list_any (is_at query) (match_ordering o (k ∷ x ∷ ks) (x ∷ ks) (x ∷ insert_key cmp ks k)) ≡ ((is_eq (query x) || list_any (is_at query) ks) || is_eq (query k))
  inserted_by x ks Less is rest = moved (is_eq (query k)) (is_eq (query x)) (list_any (is_at query) ks)
  inserted_by x ks Equal is rest = kept (is_eq (query k)) (is_eq (query x)) (list_any (is_at query) ks) (exact x is)
  inserted_by x ks Greater is rest = ap (λ (b : Bool). is_eq (query x) || b) rest ∙ turned (is_eq (query k)) (is_eq (query x)) (list_any (is_at query) ks)

  inserted : (ks : List K) → list_any (is_at query) (insert_key cmp ks k) ≡ (list_any (is_at query) ks || is_eq (query k))
  inserted [] = or-false (is_eq (query k))
  inserted (x ∷ ks) = inserted_by x ks (cmp k x) refl (inserted ks)

  pub key_added : (old new : BTreeSet K) → new.keys ≡ insert_key cmp old.keys k → contains_by query new ≡ (contains_by query old || is_eq (query k))
  key_added old new is = ap (λ ks. list_any (is_at query) ks) is ∙ inserted old.keys

pub none_held : {K : Type 0} (query : K → Ordering) (set : BTreeSet K) → set.keys ≡ [] → contains_by query set ≡ false
none_held query set is = ap (λ ks. list_any (is_at query) ks) is

-- ---- names

abbrev pub in_order : Bor (List ℕ) → Bor (List ℕ) → Ordering
in_order x y = slice_cmp nat_cmp x.now y.now

pub name_added : (old new : BTreeSet (Bor (List ℕ))) (k : Bor (List ℕ)) → new.keys ≡ insert_key in_order old.keys k → (q : List ℕ)
    → has_name new q ≡ (has_name old q || bytes_eq q k.now)
name_added old new k is q =
    key_added in_order (λ x. slice_cmp nat_cmp q x.now) k (λ x e. ap (λ (n : List ℕ). is_eq (slice_cmp nat_cmp q n)) (exact_bytes k.now x.now e)) old new is
    ∙ ap (λ (b : Bool). has_name old q || b) (is_eq-slice_cmp q k.now)

pub no_name : (seen : BTreeSet (Bor (List ℕ))) → seen.keys ≡ [] → (q : List ℕ) → has_name seen q ≡ false
no_name seen is q = none_held (λ (x : Bor (List ℕ)). slice_cmp nat_cmp q x.now) seen is
