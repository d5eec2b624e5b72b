-- The uses among items are what the rows list.
use Rattle.std.proofs.Common.{◌≡◌, ℕ, zero, suc, ◌+◌, ◌<◌, ◌⊎◌, inl, inr, Bool, true, false, cond, nat_eq, List, [], ◌∷◌, ◌++◌, length, flat_map, slice_get, Some, refl, sym, ap, subst, ◌∙◌, arith}
use Rattle.std.proofs.lemmas.Option.{slice_get_within}
use Rattle.std.proofs.lemmas.Bool.Decides.{eqb_tells}
use Rattle.fp_base.proofs.Lists.{get_front}
use Rattle.fp_graph.specs.Rows.{IsListed}
use Rattle.fp_base.proofs.Spots.{item_below}
use Rattle.fp_graph.proofs.Places.{get_right, get_joined}
use Rattle.fp_meaning.specs.declared.item.Item.{Item}
use Rattle.fp_meaning.specs.declared.names.Mention.{Mention}
use Rattle.fp_meaning.specs.Meaning.{AreMeanings}
use Rattle.fp_meaning.specs.Names.{definitions_of, uses_of}
use Rattle.fp_meaning.specs.Owners.{owners_from, counts_of}
use Rattle.fp_meaning.specs.Uses.{Uses, by_name, by_constant}
use Rattle.fp_meaning.proofs.Meanings.{one_meaning}
use Rattle.fp_uses.specs.Given.{AreBegun, given_to, Got}
use Rattle.fp_uses.proofs.Counts.{as_many_counts}
use Rattle.fp_uses.proofs.Giving.{nat_eq_true}

-- ---- what is given to a number

pub record Pair {A : Type 0} (us : List ℕ) (ts : List A) (v : ℕ) (t : A) : Type 0 where
  pub k : ℕ
  pub user : slice_get us k ≡ Some v
  pub target : slice_get ts k ≡ Some t

pub given_of : {A : Type 0} (us : List ℕ) (ts : List A) (v : ℕ) (t : A) (k : ℕ) → slice_get us k ≡ Some v → slice_get ts k ≡ Some t → (j : ℕ) × (slice_get (given_to v us ts) j ≡ Some t)
given_of [] ts v t k e f = cc
given_of (u ∷ us) [] v t k e f = cc
given_of (u ∷ us) (x ∷ ts) v t zero e f =
    let same : u ≡ v = cc in
    let is : x ≡ t = cc in
    (0, ap (λ (b : Bool). slice_get (cond b (x ∷ given_to v us ts) (given_to v us ts)) 0) (nat_eq_true u v same) ∙ ap Some is)
given_of {A = A} (u ∷ us) (x ∷ ts) v t (suc k) e f = go (nat_eq u v) (given_of us ts v t k e f)
  where
    go : (b : Bool) → (j : ℕ) × (slice_get (given_to v us ts) j ≡ Some t) → (j : ℕ) × (slice_get (cond b (x ∷ given_to v us ts) (given_to v us ts)) j ≡ Some t)
    go true (j, h) = (suc j, h)
    go false (j, h) = (j, h)

later : {A : Type 0} (u : ℕ) (x : A) (v : ℕ) (t : A) (us : List ℕ) (ts : List A) → Pair us ts v t → Pair (u ∷ us) (x ∷ ts) v t
later u x v t us ts p = record { k = suc p.k; user = p.user; target = p.target }

pub pair_of : {A : Type 0} (us : List ℕ) (ts : List A) (v : ℕ) (t : A) (j : ℕ) → slice_get (given_to v us ts) j ≡ Some t → Pair us ts v t
pair_of [] ts v t j e = cc
pair_of (u ∷ us) [] v t j e = cc
pair_of {A = A} (u ∷ us) (x ∷ ts) v t j e = go (eqb_tells u v) j e (λ i h. pair_of us ts v t i h)
  where
    here : u ≡ v → (j : ℕ) → slice_get (x ∷ given_to v us ts) j ≡ Some t → ((i : ℕ) → slice_get (given_to v us ts) i ≡ Some t → Pair us ts v t) → Pair (u ∷ us) (x ∷ ts) v t
    here same zero h next = record { k = 0; user = ap Some same; target = h }
    here same (suc i) h next = later u x v t us ts (next i h)

    go : ((nat_eq u v ≡ true) × (u ≡ v)) ⊎ ((nat_eq u v ≡ false) × (u ≡ v → ⊥)) → (j : ℕ) → slice_get (cond (nat_eq u v) (x ∷ given_to v us ts) (given_to v us ts)) j ≡ Some t
        → ((i : ℕ) → slice_get (given_to v us ts) i ≡ Some t → Pair us ts v t) → Pair (u ∷ us) (x ∷ ts) v t
    go (inl (is, same)) j h next =
        here same j (subst (λ (b : Bool). slice_get (cond b (x ∷ given_to v us ts) (given_to v us ts)) j ≡ Some t) is h) next
    go (inr (is, other)) j h next =
        later u x v t us ts (next j (subst (λ (b : Bool). slice_get (cond b (x ∷ given_to v us ts) (given_to v us ts)) j ≡ Some t) is h))

module _ (parts : List Item) (meanings : List ℕ) (meant : AreMeanings (flat_map definitions_of parts) (flat_map uses_of parts) meanings) (before rows : List (List ℕ))
    (begun : AreBegun (flat_map counts_of parts) before) (got : Got (owners_from 0 parts) meanings before rows) where
  pub as_many_rows : length rows ≡ length (flat_map definitions_of parts)
  as_many_rows = got.each ∙ begun.each ∙ as_many_counts parts

  meaning_at : (k : ℕ) (m : Mention) → slice_get (flat_map uses_of parts) k ≡ Some m → (n : ℕ) × (slice_get meanings k ≡ Some n)
  meaning_at k m e =
      let within = slice_get_within (flat_map uses_of parts) k m e in
      let each = meant.each in
      item_below meanings k (omega arith)

  row_with : (v : ℕ) → v < length (flat_map definitions_of parts) → (old : List ℕ) × (slice_get before v ≡ Some old) × (slice_get rows v ≡ Some (old ++ given_to v (owners_from 0 parts) meanings))
  row_with v lt =
      let each = begun.each in
      let many = as_many_counts parts in
      let t = item_below before v (omega arith) in
      (t.0, t.1, got.rows v t.0 t.1)

  run_at : (v n k : ℕ) (old : List ℕ) → slice_get (flat_map counts_of parts) v ≡ Some n → slice_get before v ≡ Some old → k < n → slice_get old k ≡ Some (v + 1 + k)
  run_at v n k old e f lt =
      let r = begun.runs v n old e f in
      let each = r.each in
      let t = item_below old k (omega arith) in
      t.1 ∙ ap Some (r.numbers k t.0 t.1)

  pub listed : (user used : ℕ) → Uses parts user used → IsListed rows user used
  listed user used (by_name k m user_within at_owner at_mention means) =
      let n = meaning_at k m at_mention in
      let same : used ≡ n.0 = one_meaning (flat_map definitions_of parts) m.scope m.name m.group used n.0 means (meant.meant k m n.0 at_mention n.1) in
      let here = row_with user user_within in
      let g = given_of (owners_from 0 parts) meanings user used k at_owner (n.1 ∙ ap Some (sym same)) in
      let within = slice_get_within (flat_map definitions_of parts) used means.meant.named.definition means.meant.named.here in
      let rows_many = as_many_rows in
      record {
        row = here.0 ++ given_to user (owners_from 0 parts) meanings;
        here = here.2;
        k = length here.0 + g.0;
        target = get_right here.0 (given_to user (owners_from 0 parts) meanings) used (length here.0 + g.0) g.0 refl g.1;
        within = omega arith;
      }
  listed user used (by_constant n k at_count lt is within) =
      let user_within = slice_get_within (flat_map counts_of parts) user n at_count in
      let many = as_many_counts parts in
      let here = row_with user (omega arith) in
      let rows_many = as_many_rows in
      record {
        row = here.0 ++ given_to user (owners_from 0 parts) meanings;
        here = here.2;
        k = k;
        target = get_front here.0 (given_to user (owners_from 0 parts) meanings) k used (run_at user n k here.0 at_count here.1 lt ∙ ap Some (sym is));
        within = omega arith;
      }

  pub used : (user used : ℕ) → IsListed rows user used → Uses parts user used
  used user to l =
      let row_within = slice_get_within rows user l.row l.here in
      let rows_many = as_many_rows in
      let here = row_with user (omega arith) in
      let same : l.row ≡ here.0 ++ given_to user (owners_from 0 parts) meanings = some_same l.row (here.0 ++ given_to user (owners_from 0 parts) meanings) (sym l.here ∙ here.2) in
      go here.0 here.1 (get_joined here.0 (given_to user (owners_from 0 parts) meanings) to l.k (subst (λ (xs : List ℕ). slice_get xs l.k ≡ Some to) same l.target))
    where
      some_same : (xs ys : List ℕ) → Some xs ≡ Some ys → xs ≡ ys
      some_same xs ys e = cc

      own : (old : List ℕ) → slice_get before user ≡ Some old → slice_get old l.k ≡ Some to → (n : ℕ) × (slice_get (flat_map counts_of parts) user ≡ Some n) → Uses parts user to
      own old f h (n, e) =
          let r = begun.runs user n old e f in
          let each = r.each in
          let within = slice_get_within old l.k to h in
          let listed_within = l.within in
          let rows_many = as_many_rows in
          by_constant n l.k e (omega arith) (r.numbers l.k to h) (omega arith)

      named : Pair (owners_from 0 parts) meanings user to → Uses parts user to
      named p =
          let within = slice_get_within meanings p.k to p.target in
          let each = meant.each in
          let row_within = slice_get_within rows user l.row l.here in
          let rows_many = as_many_rows in
          let below : user < length (flat_map definitions_of parts) = omega arith in
          let m = item_below (flat_map uses_of parts) p.k (omega arith) in
          by_name p.k m.0 below p.user m.1 (meant.meant p.k m.0 to m.1 p.target)

      go : (old : List ℕ) → slice_get before user ≡ Some old
          → (slice_get old l.k ≡ Some to) ⊎ ((i : ℕ) × (l.k ≡ length old + i) × (slice_get (given_to user (owners_from 0 parts) meanings) i ≡ Some to)) → Uses parts user to
      go old f (inl h) =
          let user_within = slice_get_within before user old f in
          let each = begun.each in
          own old f h (item_below (flat_map counts_of parts) user (omega arith))
      go old f (inr (i, is, h)) = named (pair_of (owners_from 0 parts) meanings user to i h)
