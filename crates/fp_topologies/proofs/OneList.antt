-- There is one list of closures.
use Rattle.std.proofs.Common.{◌≡◌, ◌∙◌, inl, inr, ◌<◌, ℕ, suc, List, [], ◌∷◌, ◌++◌, length, map, flat_map, slice_get, Option, Some, None, refl, sym, ap, subst, arith}
use Rattle.std.specs.Prelude.{unwrap_or, option_and_then}
use Rattle.std.specs.List.{AllByRecursion}
use Rattle.std.proofs.lemmas.Option.{slice_get_within}
use Rattle.fp_base.specs.Least.{IsUnbroken, broken_at}
use Rattle.fp_base.specs.declared.rule.Rule.TheVariants.{ImportCycle}
use Rattle.fp_base.proofs.Lists.{each_append, of_item, same_items}
use Rattle.fp_base.proofs.Spots.{item_below}
use Rattle.fp_base.proofs.Mapped.{get_mapped}
use Rattle.fp_graph.specs.Chains.{IsOnCycle, LeadsThrough, one, more}
use Rattle.fp_written_parts.specs.declared.topology.ImportedTopology.{ImportedTopology}
use Rattle.fp_written_parts.specs.declared.topology.WrittenTopology.{WrittenTopology}
use Rattle.fp_topologies.specs.Imports.{AreClosures, closure_at, closure_of, first_of_each, imported_by, Imports, ImportsBroken, ImportsLie, LeadsToCycle, Reaches, with_imports}
use Rattle.fp_topologies.proofs.Lists.{flat_same}
use Rattle.fp_topologies.proofs.Numbers.{first_all}
use Rattle.fp_topologies.proofs.Ways.{by_imports}

abbrev pub stands_as : Option (Option (List ℕ)) → List ℕ
stands_as found = unwrap_or (option_and_then (λ (c : Option (List ℕ)). c) found) []

-- what a topology imports at a place of its list
pub import_at : (ts : List WrittenTopology) (t : ℕ) (o : WrittenTopology) (k w : ℕ) → slice_get ts t ≡ Some o → slice_get (imported_by o) k ≡ Some w → Imports ts t w
import_at ts t o k w here e =
    let m = get_mapped (λ (i : ImportedTopology). i.topology) o.imports k w e in
    record { written = o; here = here; k = k; import_ = m.0; member = m.1; of = m.2 }

-- ---- one list

module _ (ts : List WrittenTopology) (a b : List (Option (List ℕ))) (closed : AreClosures ts a) (again : AreClosures ts b) where
  -- of topologies that aren't there neither has any
  past : (t : ℕ) → (o : Option (Option (List ℕ))) → slice_get a t ≡ o → (p : Option (Option (List ℕ))) → slice_get b t ≡ p → ((c d : List ℕ) → slice_get a t ≡ Some (Some c) → slice_get b t ≡ Some (Some d) → c ≡ d)
      → (LeadsToCycle ts t → ⊥) → stands_as (slice_get a t) ≡ stands_as (slice_get b t)
  past t None e None f both free = ap stands_as (e ∙ sym f)
  past t None e (Some p) f both free = absurd (none_some t e p f)
    where
      none_some : (t : ℕ) → slice_get a t ≡ None → (p : Option (List ℕ)) → slice_get b t ≡ Some p → ⊥
      none_some t e p f =
          let low : t < length a = let n = closed.each in let m = again.each in let l = slice_get_within b t p f in omega arith in
          let x = item_below a t low in
          let g = x.1 in
          cc
  past t (Some None) e p f both free = absurd (free (closed.cyclic t e))
  past t (Some (Some c)) e None f both free =
      let low : t < length b = let n = closed.each in let m = again.each in let l = slice_get_within a t (Some c) e in omega arith in
      let x = item_below b t low in
      let g = x.1 in
      absurd (cc)
  past t (Some (Some c)) e (Some None) f both free = absurd (free (again.cyclic t f))
  past t (Some (Some c)) e (Some (Some d)) f both free = ap stands_as e ∙ both c d e f ∙ sym (ap stands_as f)

  closures_same : (t : ℕ) (o : WrittenTopology) → slice_get ts t ≡ Some o → ((w : ℕ) → Imports ts t w → closure_at a w ≡ closure_at b w) → closure_of a o ≡ closure_of b o
  closures_same t o here behind =
      ap first_of_each
      (flat_same (with_imports a) (with_imports b) (imported_by o) (λ k w e. ap (λ (c : List ℕ). c ++ w ∷ []) (behind w (import_at ts t o k w here e))))

  both_same : (t : ℕ) → ((w : ℕ) → Imports ts t w → closure_at a w ≡ closure_at b w) → (c d : List ℕ) → slice_get a t ≡ Some (Some c) → slice_get b t ≡ Some (Some d) → c ≡ d
  both_same t behind c d e f =
      let low : t < length ts = let n = closed.each in let l = slice_get_within a t (Some c) e in omega arith in
      let o = item_below ts t low in
      closed.closed t o.0 c o.1 e ∙ closures_same t o.0 o.1 behind ∙ sym (again.closed t o.0 d o.1 f)

  same_at : (t : ℕ) → (LeadsToCycle ts t → ⊥) → closure_at a t ≡ closure_at b t
  same_at t free =
      by_imports ts (λ (v : ℕ). closure_at a v ≡ closure_at b v) (λ v loose behind. past v (slice_get a v) refl (slice_get b v) refl (both_same v behind) loose) t free

  same_entries : (t : ℕ) (x y : Option (List ℕ)) → slice_get a t ≡ Some x → slice_get b t ≡ Some y → x ≡ y
  same_entries t None None e f = refl
  same_entries t None (Some d) e f = absurd (again.free t d f (closed.cyclic t e))
  same_entries t (Some c) None e f = absurd (closed.free t c e (again.cyclic t f))
  same_entries t (Some c) (Some d) e f = ap Some (sym (ap stands_as e) ∙ same_at t (closed.free t c e) ∙ ap stands_as f)

  pub one_list : a ≡ b
  one_list = same_items a b (closed.each ∙ sym again.each) same_entries

-- ---- where nothing is broken

module _ (ts : List WrittenTopology) where
  broken_on : (v : ℕ) → IsOnCycle (Imports ts) v → IsUnbroken (ImportsBroken ts) → ⊥
  broken_on v c unbroken = last c refl
    where
      broken : (from w : ℕ) → Imports ts from w → Reaches ts w from → ⊥
      broken from w i back =
          unbroken (broken_at ImportCycle i.import_.at)
          (record { importer = from; written = i.written; here = i.here; k = i.k; import_ = i.import_; member = i.member; back = subst (λ (x : ℕ). Reaches ts x from) (sym i.of) back; is = refl })

      last : {x y : ℕ} → LeadsThrough (Imports ts) x y → x ≡ y → ⊥
      last (one {from = x} {to = y} i) same = broken x y i (inl (sym same))
      last (more {from = x} {between = m} {to = y} p i) same = broken m y i (inr (subst (λ (z : ℕ). LeadsThrough (Imports ts) z m) same p))

  pub closed_where_unbroken : (closures : List (Option (List ℕ))) → AreClosures ts closures → IsUnbroken (ImportsBroken ts) → (t : ℕ) → t < length ts → (c : List ℕ) × (slice_get closures t ≡ Some (Some c))
  closed_where_unbroken closures closed unbroken t low =
      let e = closed.each in
      let x = item_below closures t (omega arith) in
      go x.0 x.1
    where
      go : (x : Option (List ℕ)) → slice_get closures t ≡ Some x → (c : List ℕ) × (slice_get closures t ≡ Some (Some c))
      go None e = let c = closed.cyclic t e in absurd (broken_on c.0 c.2 unbroken)
      go (Some c) e = (c, e)

-- ---- each is of topologies that are there

module _ (ts : List WrittenTopology) (closures : List (Option (List ℕ))) (lie : ImportsLie ts) (closed : AreClosures ts closures) where
  abbrev AllLie : List ℕ → Type 0
  AllLie ns = AllByRecursion (λ (n : ℕ). n < length ts) ns

  lie_each : (t : ℕ) (o : WrittenTopology) → slice_get ts t ≡ Some o → (is : List ImportedTopology) → ((k : ℕ) (i : ImportedTopology) → slice_get is k ≡ Some i → (i.topology < length ts) × AllLie (closure_at closures i.topology))
      → AllLie (flat_map (with_imports closures) (map (λ (i : ImportedTopology). i.topology) is))
  lie_each t o here [] h = tt
  lie_each t o here (i ∷ is) h =
      let x = h 0 i refl in
      each_append (λ (n : ℕ). n < length ts) (with_imports closures i.topology) (flat_map (with_imports closures) (map (λ (j : ImportedTopology). j.topology) is))
      (each_append (λ (n : ℕ). n < length ts) (closure_at closures i.topology) (i.topology ∷ []) x.1 (x.0, tt))
      (lie_each t o here is (λ k j e. h (suc k) j e))

  lie_at : (t : ℕ) → (LeadsToCycle ts t → ⊥) → AllLie (closure_at closures t)
  lie_at t free = by_imports ts (λ (v : ℕ). AllLie (closure_at closures v)) step t free
    where
      step : (v : ℕ) → (LeadsToCycle ts v → ⊥) → ((w : ℕ) → Imports ts v w → AllLie (closure_at closures w)) → AllLie (closure_at closures v)
      step v loose behind = go (slice_get closures v) refl
        where
          go : (x : Option (Option (List ℕ))) → slice_get closures v ≡ x → AllLie (stands_as x)
          go None e = tt
          go (Some None) e = tt
          go (Some (Some c)) e =
              let low : v < length ts = let n = closed.each in let l = slice_get_within closures v (Some c) e in omega arith in
              let o = item_below ts v low in
              subst AllLie (sym (closed.closed v o.0 c o.1 e))
              (first_all (λ (n : ℕ). n < length ts) (flat_map (with_imports closures) (imported_by o.0))
              (lie_each v o.0 o.1 o.0.imports
              (λ k i m. (lie v o.0 k i o.1 m, behind i.topology (record { written = o.0; here = o.1; k = k; import_ = i; member = m; of = refl })))))

  pub all_lie : (t : ℕ) (c : List ℕ) (k u : ℕ) → slice_get closures t ≡ Some (Some c) → slice_get c k ≡ Some u → u < length ts
  all_lie t c k u e m =
      let all : AllLie c = subst AllLie (ap stands_as e) (lie_at t (closed.free t c e)) in
      of_item (λ (n : ℕ). n < length ts) c k u all m
