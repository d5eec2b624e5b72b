-- What lists of closures say of one another and of the rule.
use Rattle.std.specs.Prelude.{◌≡◌, ℕ, ◌<◌, List, length, slice_get, Option, Some}
use Rattle.fp_base.specs.Least.{IsUnbroken}
use Rattle.fp_written_parts.specs.declared.topology.WrittenTopology.{WrittenTopology}
use Rattle.fp_topologies.specs.Imports.{AreClosures, ImportsBroken, ImportsLie}

-- they are one list
abbrev pub OneClosures : Type 0
OneClosures = (ts : List WrittenTopology) (a b : List (Option (List ℕ))) → AreClosures ts a → AreClosures ts b → a ≡ b

-- where the rule isn't broken, each topology has one
abbrev pub UnbrokenAreClosed : Type 0
UnbrokenAreClosed = (ts : List WrittenTopology) (closures : List (Option (List ℕ))) → AreClosures ts closures → IsUnbroken (ImportsBroken ts) → (t : ℕ) → t < length ts → (c : List ℕ) × (slice_get closures t ≡ Some (Some c))

-- they are of topologies that are there
abbrev pub ClosuresLie : Type 0
ClosuresLie = (ts : List WrittenTopology) (closures : List (Option (List ℕ))) → ImportsLie ts → AreClosures ts closures → (t : ℕ) (c : List ℕ) (k u : ℕ) → slice_get closures t ≡ Some (Some c) → slice_get c k ≡ Some u → u < length ts
