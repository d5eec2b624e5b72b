-- Which topologies a topology imports, through others too. FPP Language Specification, "Topology Import Specifiers".
use Rattle.std.specs.Prelude.{◌≡◌, ℕ, ◌<◌, ◌⊎◌, ◌==◌, not, List, [], ◌∷◌, ◌++◌, length, map, flat_map, slice_get, Option, Some, None, option_and_then, unwrap_or}
use Rattle.std.specs.List.{filter}
use Rattle.fp_base.specs.Least.{broken_at}
use Rattle.fp_base.specs.declared.refusal.Refusal.{Refusal}
use Rattle.fp_base.specs.declared.rule.Rule.TheVariants.{ImportCycle}
use Rattle.fp_graph.specs.Chains.{IsOnCycle, LeadsThrough}
use Rattle.fp_written_parts.specs.declared.topology.ImportedTopology.{ImportedTopology}
use Rattle.fp_written_parts.specs.declared.topology.WrittenTopology.{WrittenTopology}

-- those that it imports itself
abbrev pub imported_by : WrittenTopology → List ℕ
imported_by o = map (λ (i : ImportedTopology). i.topology) o.imports

-- each import is of one of the topologies
abbrev pub ImportsLie : List WrittenTopology → Type 0
ImportsLie ts = (t : ℕ) (o : WrittenTopology) (k : ℕ) (i : ImportedTopology) → slice_get ts t ≡ Some o → slice_get o.imports k ≡ Some i → i.topology < length ts

module _ (ts : List WrittenTopology) where
  -- the one imports the other
  pub record Imports (importer imported : ℕ) : Type 0 where
    pub written : WrittenTopology
    pub here : slice_get ts importer ≡ Some written
    pub k : ℕ
    pub import_ : ImportedTopology
    pub member : slice_get written.imports k ≡ Some import_
    pub of : import_.topology ≡ imported

  -- the one is the other or imports it, perhaps through others
  abbrev pub Reaches : ℕ → ℕ → Type 0
  Reaches from to = (from ≡ to) ⊎ LeadsThrough Imports from to

  -- it is on a cycle of imports, or imports one that is, perhaps through others
  abbrev pub LeadsToCycle : ℕ → Type 0
  LeadsToCycle t = (v : ℕ) × Reaches t v × IsOnCycle Imports v

  -- ---- the rule

  -- at each import of a topology that reaches the importer again
  pub record ImportsBroken (f : Refusal) : Type 0 where
    pub importer : ℕ
    pub written : WrittenTopology
    pub here : slice_get ts importer ≡ Some written
    pub k : ℕ
    pub import_ : ImportedTopology
    pub member : slice_get written.imports k ≡ Some import_
    pub back : Reaches import_.topology importer
    pub is : f ≡ broken_at ImportCycle import_.at

-- ---- all that a topology imports, through others too, each once: depth first, in source order, each behind those that it imports itself

-- of each the first
abbrev pub first_of_each : List ℕ → List ℕ
first_of_each [] = []
first_of_each (n ∷ ns) = n ∷ filter (λ m. not (n == m)) (first_of_each ns)

-- in a list for each topology, which has none for those that lead to a cycle
abbrev pub closure_at : List (Option (List ℕ)) → ℕ → List ℕ
closure_at closures t = unwrap_or (option_and_then (λ (c : Option (List ℕ)). c) (slice_get closures t)) []

-- a topology behind all that it imports
abbrev pub with_imports : List (Option (List ℕ)) → ℕ → List ℕ
with_imports closures t = closure_at closures t ++ t ∷ []

-- those with which each of its imports comes
abbrev pub closure_of : List (Option (List ℕ)) → WrittenTopology → List ℕ
closure_of closures o = first_of_each (flat_map (with_imports closures) (imported_by o))

pub record AreClosures (ts : List WrittenTopology) (closures : List (Option (List ℕ))) : Type 0 where
  pub each : length closures ≡ length ts
  pub closed : (t : ℕ) (o : WrittenTopology) (c : List ℕ) → slice_get ts t ≡ Some o → slice_get closures t ≡ Some (Some c) → c ≡ closure_of closures o
  pub free : (t : ℕ) (c : List ℕ) → slice_get closures t ≡ Some (Some c) → LeadsToCycle ts t → ⊥
  pub cyclic : (t : ℕ) → slice_get closures t ≡ Some None → LeadsToCycle ts t
