-- The instances of topologies: those of the topologies that it imports, then its own. FPP Language Specification, "Instance Specifiers",
-- "Topology Import Specifiers".
use Rattle.std.specs.Prelude.{ℕ, Bool, not, ◌&&◌, ◌==◌, List, [], ◌++◌, map, flat_map, filter, slice_get, option_map, unwrap_or}
use Rattle.std.specs.List.{list_any}
use Rattle.fp_tables.specs.Lists.{some_and}
use Rattle.fp_written_parts.specs.declared.topology.MemberInstance.{MemberInstance}
use Rattle.fp_written_parts.specs.declared.topology.WrittenTopology.{WrittenTopology}
use Rattle.fp_topologies.specs.Imports.{first_of_each}

abbrev pub instances_of : List MemberInstance → List ℕ
instances_of ms = map (λ (m : MemberInstance). m.used.instance) ms

-- what an importer takes
abbrev pub public_of : List MemberInstance → List ℕ
public_of ms = instances_of (filter (λ (m : MemberInstance). not m.private) ms)

abbrev pub public_instances : WrittenTopology → List ℕ
public_instances o = public_of o.instances

abbrev pub has_private : ℕ → WrittenTopology → Bool
has_private i o = list_any (λ (m : MemberInstance). m.private && m.used.instance == i) o.instances

module _ (ts : List WrittenTopology) where
  abbrev pub members_at : ℕ → List MemberInstance
  members_at t = unwrap_or (option_map (λ (o : WrittenTopology). o.instances) (slice_get ts t)) []

  abbrev pub public_at : ℕ → List ℕ
  public_at t = unwrap_or (option_map public_instances (slice_get ts t)) []

  abbrev pub is_private_at : ℕ → ℕ → Bool
  is_private_at t i = some_and (has_private i) (slice_get ts t)

  -- by all that it imports: each instance once
  abbrev pub instances_with : List ℕ → WrittenTopology → List ℕ
  instances_with closure o = first_of_each (flat_map public_at closure ++ instances_of o.instances)
