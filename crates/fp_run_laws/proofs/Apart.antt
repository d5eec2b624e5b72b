-- No instance stands twice in a sound topology.
use Rattle.std.proofs.Common.{◌≡◌, true, Option, Some, None}
use Rattle.std.specs.Prelude.{[], slice_get, option_map, unwrap_or}
use Rattle.fp_tables.specs.Names.{numbers_differ}
use Rattle.fp_tables.specs.Lookup.{Described, placed}
use Rattle.fp_tables.specs.Sound.{IsSoundFor, IsSoundAt}
use Rattle.fp_tables.specs.declared.model.Model.{Model}
use Rattle.fp_tables.specs.declared.topology.Topology.{Topology}

pub listed_apart : (m : Model) (o : Option Topology) → IsSoundAt m o → numbers_differ (unwrap_or (option_map (λ (x : Topology). x.instances) o) []) ≡ true
listed_apart m None sound = absurd sound
listed_apart m (Some o) sound = sound.instances_differ

pub placed_apart : (t : Described) → IsSoundFor t.model (Some t.topology) → numbers_differ (placed t) ≡ true
placed_apart t sound = listed_apart t.model (slice_get t.model.topologies t.topology) sound.1
