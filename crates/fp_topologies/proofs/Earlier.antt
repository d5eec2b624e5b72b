-- What a topology imports, through others too, stands before it in an order of topologies.
use Rattle.std.proofs.Common.{◌≡◌, ℕ, zero, suc, ◌<◌, ◌≤◌, not, ◌==◌, ◌⊎◌, inl, inr, List, [], ◌∷◌, length, flat_map, Option, Some, None, slice_get, refl, sym, subst, arith}
use Rattle.std.specs.Prelude.{option_and_then, unwrap_or}
use Rattle.std.specs.List.{AllByRecursion}
use Rattle.fp_base.proofs.Lists.{each_flat, each_mapped, each_push, each_weaker, each_item}
use Rattle.fp_base.proofs.Spots.{item_below}
use Rattle.fp_base.proofs.Passing.{each_filtered}
use Rattle.fp_graph.specs.Chains.{IsOnCycle, IsOrder}
use Rattle.fp_written_parts.specs.declared.topology.ImportedTopology.{ImportedTopology}
use Rattle.fp_written_parts.specs.declared.topology.WrittenTopology.{WrittenTopology}
use Rattle.fp_topologies.specs.Imports.{AreClosures, Imports, closure_at, closure_of, first_of_each, imported_by, with_imports}

-- ---- what holds of each item

pub each_first : (P : ℕ → Type 0) (ns : List ℕ) → AllByRecursion P ns → AllByRecursion P (first_of_each ns)
each_first P [] h = tt
each_first P (n ∷ ns) h = (h.0, each_filtered P (λ m. not (n == m)) (first_of_each ns) (each_first P ns h.1))

-- ---- before it in the order

-- among the first so many
abbrev pub Stands : List ℕ → ℕ → ℕ → Type 0
Stands order k m = (j : ℕ) × (j < k) × (slice_get order j ≡ Some m)

module _ (ts : List WrittenTopology) (closures : List (Option (List ℕ))) (order : List ℕ) (sorted : IsOrder (length ts) (Imports ts) order) (are : AreClosures ts closures) where
  free : (t : ℕ) (c : List ℕ) → slice_get closures t ≡ Some (Some c) → IsOnCycle (Imports ts) t → ⊥
  free t c here cycle = are.free t c here (t, inl refl, cycle)

  further : (j k : ℕ) → j < k → (m : ℕ) → Stands order j m → Stands order k m
  further j k low m s = let l = s.1 in (s.0, omega arith, s.2)

  -- of those that each before it imports
  abbrev Behind : ℕ → Type 0
  Behind k = (j m : ℕ) (d : List ℕ) → j < k → slice_get order j ≡ Some m → slice_get closures m ≡ Some (Some d) → AllByRecursion (Stands order j) d

  through : (k m j : ℕ) → Behind k → j < k → slice_get order j ≡ Some m → (o : Option (Option (List ℕ))) → slice_get closures m ≡ o
      → AllByRecursion (Stands order k) (unwrap_or (option_and_then (λ (d : Option (List ℕ)). d) o) [])
  through k m j behind lt there None e = tt
  through k m j behind lt there (Some None) e = tt
  through k m j behind lt there (Some (Some d)) e = each_weaker (Stands order j) (Stands order k) (further j k lt) d (behind j m d lt there e)

  one_earlier : (k t : ℕ) (c : List ℕ) (o : WrittenTopology) → Behind k → slice_get order k ≡ Some t → slice_get closures t ≡ Some (Some c) → slice_get ts t ≡ Some o
      → (j : ℕ) (i : ImportedTopology) → slice_get o.imports j ≡ Some i → AllByRecursion (Stands order k) (with_imports closures i.topology)
  one_earlier k t c o behind at here written j i e =
      let imports : Imports ts t i.topology = record { written = o; here = written; k = j; import_ = i; member = e; of = refl } in
      let b = sorted.behind k t i.topology at (free t c here) imports in
      each_push (Stands order k) (closure_at closures i.topology) i.topology (through k i.topology b.0 behind b.1 b.2 (slice_get closures i.topology) refl) b

  pub earlier : (n k t : ℕ) (c : List ℕ) → k < n → slice_get order k ≡ Some t → slice_get closures t ≡ Some (Some c) → AllByRecursion (Stands order k) c
  earlier zero k t c low at here = absurd (omega arith)
  earlier (suc n) k t c low at here =
      let w = item_below ts t (sorted.within k t at) in
      let behind : Behind k = λ j m d lt there e. earlier n j m d (omega arith) there e in
      subst (AllByRecursion (Stands order k)) (sym (are.closed t w.0 c w.1 here))
      (each_first (Stands order k) (flat_map (with_imports closures) (imported_by w.0)) (each_flat (Stands order k) (with_imports closures) (imported_by w.0)
      (each_mapped (λ (m : ℕ). AllByRecursion (Stands order k) (with_imports closures m)) (λ (i : ImportedTopology). i.topology) w.0.imports
      (each_item (λ (i : ImportedTopology). AllByRecursion (Stands order k) (with_imports closures i.topology)) w.0.imports (one_earlier k t c w.0 behind at here w.1)))))
