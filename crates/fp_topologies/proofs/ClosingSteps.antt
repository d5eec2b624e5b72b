-- What an imported topology imports is imported too.
use Rattle.std.proofs.Common.{◌≡◌, ℕ, ◌<◌, true, List, [], ◌∷◌, ◌++◌, length, flat_map, Option, Some, None, slice_get, refl, sym, ap, subst, ◌∙◌, arith}
use Rattle.std.specs.Prelude.{option_and_then, unwrap_or}
use Rattle.std.specs.List.{AllByRecursion}
use Rattle.std.proofs.lemmas.Option.{slice_get_within}
use Rattle.fp_base.proofs.Lists.{each_flat, each_mapped, each_push, each_weaker, each_item}
use Rattle.fp_base.proofs.Spots.{item_below}
use Rattle.fp_base.proofs.Mapped.{map_get}
use Rattle.fp_tables.specs.Lists.{is_in}
use Rattle.fp_written_parts.specs.declared.topology.ImportedTopology.{ImportedTopology}
use Rattle.fp_written_parts.specs.declared.topology.WrittenTopology.{WrittenTopology}
use Rattle.fp_topologies.specs.Imports.{AreClosures, Imports, LeadsToCycle, closure_at, closure_of, first_of_each, imported_by, with_imports}
use Rattle.fp_topologies.proofs.Ways.{by_imports}
use Rattle.fp_topologies.proofs.Earlier.{each_first}
use Rattle.fp_topologies.proofs.Having.{all_in, in_first, in_flat, in_front}

module _ (ts : List WrittenTopology) (closures : List (Option (List ℕ))) (closed : AreClosures ts closures) where
  -- all of the one is in the other
  abbrev pub Within : List ℕ → List ℕ → Type 0
  Within xs ys = AllByRecursion (λ (n : ℕ). is_in n ys ≡ true) xs

  -- a list has all that its members import
  abbrev pub IsWhole : List ℕ → Type 0
  IsWhole c = AllByRecursion (λ (u : ℕ). Within (closure_at closures u) c) c

  wider : (xs ys zs : List ℕ) → ((n : ℕ) → is_in n ys ≡ true → is_in n zs ≡ true) → Within xs ys → Within xs zs
  wider xs ys zs to h = each_weaker (λ (n : ℕ). is_in n ys ≡ true) (λ (n : ℕ). is_in n zs ≡ true) to xs h

  step : (v : ℕ) → (LeadsToCycle ts v → ⊥) → ((w : ℕ) → Imports ts v w → IsWhole (closure_at closures w)) → IsWhole (closure_at closures v)
  step v free behind = go (slice_get closures v) refl
    where
      of : (c : List ℕ) (o : WrittenTopology) → slice_get ts v ≡ Some o → c ≡ closure_of closures o → IsWhole c
      of c o here is =
          subst IsWhole (sym is)
          (each_first (λ (u : ℕ). Within (closure_at closures u) (closure_of closures o)) (flat_map (with_imports closures) (imported_by o))
          (each_flat (λ (u : ℕ). Within (closure_at closures u) (closure_of closures o)) (with_imports closures) (imported_by o)
          (each_mapped (λ (w : ℕ). AllByRecursion (λ (u : ℕ). Within (closure_at closures u) (closure_of closures o)) (with_imports closures w)) (λ (i : ImportedTopology). i.topology) o.imports
          (each_item _ o.imports (λ k i e. by k i e)))))
        where
          into : (k : ℕ) (i : ImportedTopology) → slice_get o.imports k ≡ Some i → (n : ℕ) → is_in n (closure_at closures i.topology) ≡ true → is_in n (closure_of closures o) ≡ true
          into k i e n h =
              in_first n (flat_map (with_imports closures) (imported_by o))
              (in_flat (with_imports closures) n (imported_by o) k i.topology (map_get (λ (j : ImportedTopology). j.topology) o.imports k i e)
              (in_front n (closure_at closures i.topology) (i.topology ∷ []) h))

          by : (k : ℕ) (i : ImportedTopology) → slice_get o.imports k ≡ Some i → AllByRecursion (λ (u : ℕ). Within (closure_at closures u) (closure_of closures o)) (with_imports closures i.topology)
          by k i e =
              let one : Imports ts v i.topology = record { written = o; here = here; k = k; import_ = i; member = e; of = refl } in
              let d = closure_at closures i.topology in
              let whole = closure_of closures o in
              each_push (λ (u : ℕ). Within (closure_at closures u) whole) d i.topology
              (each_weaker (λ (u : ℕ). Within (closure_at closures u) d) (λ (u : ℕ). Within (closure_at closures u) whole) (λ u h. wider (closure_at closures u) d whole (into k i e) h) d
              (behind i.topology one))
              (wider d d whole (into k i e) (all_in d))

      go : (x : Option (Option (List ℕ))) → slice_get closures v ≡ x → IsWhole (unwrap_or (option_and_then (λ (c : Option (List ℕ)). c) x) [])
      go None e = tt
      go (Some None) e = tt
      go (Some (Some c)) e =
          let n = closed.each in
          let l = slice_get_within closures v (Some c) e in
          let o = item_below ts v (omega arith) in
          of c o.0 o.1 (closed.closed v o.0 c o.1 e)

  pub whole : (t : ℕ) (c : List ℕ) → slice_get closures t ≡ Some (Some c) → IsWhole c
  whole t c e =
      subst IsWhole (ap (λ (x : Option (Option (List ℕ))). unwrap_or (option_and_then (λ (d : Option (List ℕ)). d) x) []) e)
      (by_imports ts (λ (v : ℕ). IsWhole (closure_at closures v)) step t (closed.free t c e))
