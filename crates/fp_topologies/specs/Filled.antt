-- Closures that are noted one after another, in an order in which each topology stands behind those that it imports.
use Rattle.std.specs.Prelude.{◌≡◌, ℕ, ◌<◌, Bool, not, List, length, map, slice_get, Option, Some, None, is_some, option_and_then}
use Rattle.std.specs.List.{list_any}
use Rattle.fp_written_parts.specs.declared.topology.ImportedTopology.{ImportedTopology}
use Rattle.fp_written_parts.specs.declared.topology.WrittenTopology.{WrittenTopology}
use Rattle.fp_topologies.specs.Imports.{closure_of, LeadsToCycle}

abbrev pub imported_of : List ImportedTopology → List ℕ
imported_of is = map (λ (i : ImportedTopology). i.topology) is

abbrev pub lacks_closure : List (Option (List ℕ)) → ℕ → Bool
lacks_closure closures t = not (is_some (option_and_then (λ (c : Option (List ℕ)). c) (slice_get closures t)))

-- some of the imports lacks it
abbrev pub some_lacks_closure : List (Option (List ℕ)) → List ImportedTopology → Bool
some_lacks_closure closures is = list_any (λ (i : ImportedTopology). lacks_closure closures i.topology) is

module _ (ts : List WrittenTopology) where
  -- a topology has its closure in the table, or none as it leads to a cycle
  pub record IsFilled (closures : List (Option (List ℕ))) (t : ℕ) : Type 0 where
    pub closed : (o : WrittenTopology) (c : List ℕ) → slice_get ts t ≡ Some o → slice_get closures t ≡ Some (Some c) → c ≡ closure_of closures o
    pub free : (c : List ℕ) → slice_get closures t ≡ Some (Some c) → LeadsToCycle ts t → ⊥
    pub cyclic : slice_get closures t ≡ Some None → LeadsToCycle ts t

  -- the first of an order
  pub record AreFilled (order : List ℕ) (count : ℕ) (closures : List (Option (List ℕ))) : Type 0 where
    pub each : length closures ≡ length ts
    pub done : (k t : ℕ) → k < count → slice_get order k ≡ Some t → IsFilled closures t
