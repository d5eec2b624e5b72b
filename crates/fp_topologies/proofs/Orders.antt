-- Closures, noted in an order.
use Rattle.std.proofs.Common.{◌≡◌, ◌∙◌, ◌||◌, ◌⊎◌, inl, inr, ◌<◌, ◌≤◌, ◌+◌, ℕ, zero, suc, Bool, true, false, not, cond, List, [], ◌∷◌, ◌++◌, length, flat_map, set, slice_get, Option, Some, None, refl, sym, ap, subst, arith}
use Rattle.std.specs.Prelude.{is_some, option_and_then}
use Rattle.std.proofs.lemmas.List.{length-set}
use Rattle.std.proofs.lemmas.Option.{slice_get_within}
use Rattle.fp_base.proofs.Bools.{neither, or_cases}
use Rattle.fp_base.proofs.Options.{one_some, same_some}
use Rattle.fp_base.proofs.Spots.{below_or_at, get_set_other, get_set_same, item_below}
use Rattle.fp_graph.specs.Chains.{AreFlags, IsOnCycle, IsOrder, one}
use Rattle.fp_written_parts.specs.declared.topology.ImportedTopology.{ImportedTopology}
use Rattle.fp_written_parts.specs.declared.topology.WrittenTopology.{WrittenTopology}
use Rattle.fp_topologies.specs.Filled.{AreFilled, imported_of, IsFilled, some_lacks_closure, lacks_closure}
use Rattle.fp_topologies.specs.Imports.{AreClosures, closure_of, first_of_each, imported_by, Imports, LeadsToCycle, with_imports}
use Rattle.fp_topologies.proofs.Lists.{flat_same}
use Rattle.fp_topologies.proofs.OneList.{import_at, stands_as}
use Rattle.fp_topologies.proofs.Ways.{cycle_leads, leads_behind, leads_by}

-- ---- what lacks a closure

module _ (closures : List (Option (List ℕ))) where
  pub some_lacks : (is : List ImportedTopology) → some_lacks_closure closures is ≡ true → (k : ℕ) × (i : ImportedTopology) × (slice_get is k ≡ Some i) × (lacks_closure closures i.topology ≡ true)
  some_lacks [] e = absurd (cc)
  some_lacks (i ∷ is) e = go (or_cases (lacks_closure closures i.topology) (some_lacks_closure closures is) e) (some_lacks is)
    where
      go : (lacks_closure closures i.topology ≡ true) ⊎ (some_lacks_closure closures is ≡ true)
          → (some_lacks_closure closures is ≡ true → (k : ℕ) × (j : ImportedTopology) × (slice_get is k ≡ Some j) × (lacks_closure closures j.topology ≡ true))
          → (k : ℕ) × (j : ImportedTopology) × (slice_get (i ∷ is) k ≡ Some j) × (lacks_closure closures j.topology ≡ true)
      go (inl h) rest = (zero, i, refl, h)
      go (inr h) rest = let t = rest h in (suc t.0, t.1, t.2, t.3)

  pub none_lacks : (is : List ImportedTopology) → some_lacks_closure closures is ≡ false → (k : ℕ) (i : ImportedTopology) → slice_get is k ≡ Some i → lacks_closure closures i.topology ≡ false
  none_lacks [] e k i h = absurd (cc)
  none_lacks (j ∷ is) e zero i h =
      subst (λ (x : ImportedTopology). lacks_closure closures x.topology ≡ false) (same_some h) (neither (lacks_closure closures j.topology) (some_lacks_closure closures is) e).0
  none_lacks (j ∷ is) e (suc k) i h = none_lacks is (neither (lacks_closure closures j.topology) (some_lacks_closure closures is) e).1 k i h

lacks_none : (x : Option (List ℕ)) (o : Option (Option (List ℕ))) → o ≡ Some x → not (is_some (option_and_then (λ (c : Option (List ℕ)). c) o)) ≡ true → o ≡ Some None
lacks_none None o e h = e
lacks_none (Some c) o e h =
    let there : not (is_some (option_and_then (λ (d : Option (List ℕ)). d) o)) ≡ false = ap (λ (y : Option (Option (List ℕ))). not (is_some (option_and_then (λ (d : Option (List ℕ)). d) y))) e in
    absurd (cc)

has_some : (o : Option (Option (List ℕ))) → not (is_some (option_and_then (λ (c : Option (List ℕ)). c) o)) ≡ false → (c : List ℕ) × (o ≡ Some (Some c))
has_some None h = absurd (cc)
has_some (Some None) h = absurd (cc)
has_some (Some (Some c)) h = (c, refl)

-- ---- in order

module _ (ts : List WrittenTopology) (order : List ℕ) (cyclic : List Bool) (sorted : IsOrder (length ts) (Imports ts) order) (flagged : AreFlags (length ts) (IsOnCycle (Imports ts)) cyclic) where
  pub filled_none : (closures : List (Option (List ℕ))) → length closures ≡ length ts → AreFilled ts order 0 closures
  filled_none closures e = record { each = e; done = λ k t low h. absurd (omega arith) }

  pub filled_all : (count : ℕ) (closures : List (Option (List ℕ))) → length order ≤ count → AreFilled ts order count closures → AreClosures ts closures
  filled_all count closures past h = record {
    each = h.each;
    closed = λ t o c here e. (at t (Some c) e).closed o c here e;
    free = λ t c e. (at t (Some c) e).free c e;
    cyclic = λ t e. (at t None e).cyclic e;
  }
    where
      at : (t : ℕ) (x : Option (List ℕ)) → slice_get closures t ≡ Some x → IsFilled ts closures t
      at t x e =
          let low : t < length ts = let n = h.each in let l = slice_get_within closures t x e in omega arith in
          let p = sorted.all t low in
          let within = slice_get_within order p.0 t p.1 in
          h.done p.0 t (omega arith) p.1

  -- one more
  module _ (count v : ℕ) (o : WrittenTopology) (flag : Bool) (closures : List (Option (List ℕ))) (at : slice_get order count ≡ Some v) (told : slice_get cyclic v ≡ Some flag)
      (here : slice_get ts v ≡ Some o) (before : AreFilled ts order count closures) where
    abbrev found : Option (List ℕ)
    found = cond (flag || some_lacks_closure closures o.imports) None (Some (first_of_each (flat_map (with_imports closures) (imported_of o.imports))))

    abbrev after : List (Option (List ℕ))
    after = set closures v found

    low : v < length closures
    low = let n = before.each in let l = slice_get_within ts v o here in omega arith

    -- what it imports stands before it
    behind : flag ≡ false → (w : ℕ) → Imports ts v w → IsFilled ts closures w
    behind e w i =
        let none : IsOnCycle (Imports ts) v → ⊥ = flagged.exact v false (subst (λ (b : Bool). slice_get cyclic v ≡ Some b) e told) in
        let t = sorted.behind count v w at none i in
        before.done t.0 w t.1 t.2

    entry_at : flag ≡ false → (w : ℕ) → Imports ts v w → lacks_closure closures w ≡ true → slice_get closures w ≡ Some None
    entry_at e w i lacks =
        let none : IsOnCycle (Imports ts) v → ⊥ = flagged.exact v false (subst (λ (b : Bool). slice_get cyclic v ≡ Some b) e told) in
        let t = sorted.behind count v w at none i in
        let in_ts = sorted.within t.0 w t.2 in
        let n = before.each in
        let x = item_below closures w (omega arith) in
        lacks_none x.0 (slice_get closures w) x.1 lacks

    imports_at : (k : ℕ) (i : ImportedTopology) → slice_get o.imports k ≡ Some i → Imports ts v i.topology
    imports_at k i e = record { written = o; here = here; k = k; import_ = i; member = e; of = refl }

    -- no closure of what is imported changes
    kept : (t : ℕ) (p : WrittenTopology) → slice_get ts t ≡ Some p → ((w : ℕ) → Imports ts t w → w ≡ v → ⊥) → closure_of closures p ≡ closure_of after p
    kept t p there differ =
        ap first_of_each
        (flat_same (with_imports closures) (with_imports after) (imported_by p)
        (λ k w e. ap (λ (x : Option (Option (List ℕ))). stands_as x ++ w ∷ []) (sym (get_set_other closures v w found (differ w (import_at ts t p k w there e))))))

    own : (fl : Bool) → flag ≡ fl → (lacking : Bool) → some_lacks_closure closures o.imports ≡ lacking → IsFilled ts after v
    own true e lacking l =
        let none : found ≡ None = ap (λ (b : Bool). cond (b || some_lacks_closure closures o.imports) None (Some (first_of_each (flat_map (with_imports closures) (imported_of o.imports))))) e in
        let is : slice_get after v ≡ Some None = get_set_same closures v found low ∙ ap Some none in
        record {
          closed = λ p c there h. none_some (slice_get after v) c is h;
          free = λ c h. none_some (slice_get after v) c is h;
          cyclic = λ h. cycle_leads ts v (flagged.exact v true (subst (λ (b : Bool). slice_get cyclic v ≡ Some b) e told));
        }
      where
        none_some : {P : Type 0} (x : Option (Option (List ℕ))) (c : List ℕ) → x ≡ Some None → x ≡ Some (Some c) → P
        none_some x c d e = absurd (cc)
    own false e true l =
        let none : found ≡ None =
        ap (λ (b : Bool). cond (b || some_lacks_closure closures o.imports) None (Some (first_of_each (flat_map (with_imports closures) (imported_of o.imports))))) e
        ∙ ap (λ (b : Bool). cond b None (Some (first_of_each (flat_map (with_imports closures) (imported_of o.imports))))) l in
        let is : slice_get after v ≡ Some None = get_set_same closures v found low ∙ ap Some none in
        record {
          closed = λ p c there h. none_some (slice_get after v) c is h;
          free = λ c h. none_some (slice_get after v) c is h;
          cyclic = λ h.
              let t = some_lacks closures o.imports l in
              let i = imports_at t.0 t.1 t.2 in
              leads_behind ts v t.1.topology i ((behind e t.1.topology i).cyclic (entry_at e t.1.topology i t.3));
        }
      where
        none_some : {P : Type 0} (x : Option (Option (List ℕ))) (c : List ℕ) → x ≡ Some None → x ≡ Some (Some c) → P
        none_some x c d e = absurd (cc)
    own false e false l =
        let none : IsOnCycle (Imports ts) v → ⊥ = flagged.exact v false (subst (λ (b : Bool). slice_get cyclic v ≡ Some b) e told) in
        let some : found ≡ Some (closure_of closures o) =
        ap (λ (b : Bool). cond (b || some_lacks_closure closures o.imports) None (Some (first_of_each (flat_map (with_imports closures) (imported_of o.imports))))) e
        ∙ ap (λ (b : Bool). cond b None (Some (first_of_each (flat_map (with_imports closures) (imported_of o.imports))))) l in
        let is : slice_get after v ≡ Some (Some (closure_of closures o)) = get_set_same closures v found low ∙ ap Some some in
        record {
          closed = λ p c there h.
              let same : o ≡ p = one_some (slice_get ts v) o p here there in
              same_entry (slice_get after v) (closure_of closures o) c is h ∙ kept v o here (λ w i s. none (one (subst (λ (x : ℕ). Imports ts v x) s i))) ∙ ap (closure_of after) same;
          free = λ c h leads. loose none (leads_by ts v leads);
          cyclic = λ h. some_none (slice_get after v) (closure_of closures o) is h;
        }
      where
        same_entry : (x : Option (Option (List ℕ))) (c d : List ℕ) → x ≡ Some (Some c) → x ≡ Some (Some d) → d ≡ c
        same_entry x c d e f = same_some (same_some (sym f ∙ e))

        some_none : {P : Type 0} (x : Option (Option (List ℕ))) (c : List ℕ) → x ≡ Some (Some c) → x ≡ Some None → P
        some_none x c d e = absurd (cc)

        loose : (IsOnCycle (Imports ts) v → ⊥) → IsOnCycle (Imports ts) v ⊎ ((w : ℕ) × Imports ts v w × LeadsToCycle ts w) → ⊥
        loose none (inl c) = none c
        loose none (inr t) =
            let i = t.1 in
            let k : slice_get o.imports i.k ≡ Some i.import_ = subst (λ (p : WrittenTopology). slice_get p.imports i.k ≡ Some i.import_) (one_some (slice_get ts v) i.written o i.here here) i.member in
            let has : lacks_closure closures t.0 ≡ false = subst (λ (w : ℕ). lacks_closure closures w ≡ false) i.of (none_lacks closures o.imports l i.k i.import_ k) in
            let c = has_some (slice_get closures t.0) has in
            (behind e t.0 i).free c.0 c.1 t.2

    other : (k t : ℕ) → k < count → slice_get order k ≡ Some t → IsFilled ts after t
    other k t less e =
        let filled = before.done k t less e in
        let differ : t ≡ v → ⊥ = λ same. not_again k less (subst (λ (x : ℕ). slice_get order k ≡ Some x) same e) in
        let same : slice_get after t ≡ slice_get closures t = get_set_other closures v t found differ in
        record {
          closed = λ p c there h.
              filled.closed p c there (sym same ∙ h)
              ∙ kept t p there
              (λ w i s.
              let b = sorted.behind k t w e (λ cycle. filled.free c (sym same ∙ h) (cycle_leads ts t cycle)) i in
              let lower = b.1 in
              not_again b.0 (omega arith) (subst (λ (x : ℕ). slice_get order b.0 ≡ Some x) s b.2));
          free = λ c h. filled.free c (sym same ∙ h);
          cyclic = λ h. filled.cyclic (sym same ∙ h);
        }
      where
        not_again : (j : ℕ) → j < count → slice_get order j ≡ Some v → ⊥
        not_again j less e = let same = sorted.once j count v e at in omega arith

    pub filled_next : AreFilled ts order (count + 1) after
    filled_next = record {
      each = length-set closures v found ∙ before.each;
      done = λ k t less e. go k t e (below_or_at k count less);
    }
      where
        go : (k t : ℕ) → slice_get order k ≡ Some t → (k < count) ⊎ (k ≡ count) → IsFilled ts after t
        go k t e (inl less) = other k t less e
        go k t e (inr last) =
            let same : t ≡ v = one_some (slice_get order count) t v (subst (λ (j : ℕ). slice_get order j ≡ Some t) last e) at in
            subst (IsFilled ts after) (sym same) (own flag refl (some_lacks_closure closures o.imports) refl)
