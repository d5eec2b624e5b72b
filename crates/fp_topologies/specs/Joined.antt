-- The connections of topologies: those of the topologies that it imports, those that are written in it, and those of its patterns. FPP
-- Language Specification, "Topology Import Specifiers", "Connection Graph Specifiers".
use Rattle.std.specs.Prelude.{◌≡◌, ℕ, ◌<◌, Bool, not, ◌&&◌, ◌==◌, cond, List, [], ◌∷◌, ◌++◌, length, flat_map, filter, slice_get, Option, Some, option_map, unwrap_or}
use Rattle.std.specs.List.{list_any}
use Rattle.fp_tables.specs.declared.component.Component.{Component}
use Rattle.fp_tables.specs.declared.kind.PortDef.{PortDef}
use Rattle.fp_tables.specs.declared.topology.Instance.{Instance}
use Rattle.fp_tables.specs.declared.topology.Link.{Link}
use Rattle.fp_written_parts.specs.declared.topology.WrittenTopology.{WrittenTopology}
use Rattle.fp_topologies.specs.Held.{instances_with, is_private_at}
use Rattle.fp_topologies.specs.Patterns.{pattern_links}
use Rattle.fp_topologies.specs.Ports.{direct_links}
use Rattle.fp_topologies.specs.declared.joining.Joined.{Joined}

-- the same ports of the same instances
abbrev pub same_ports : Link → Link → Bool
same_ports a b = a.from == b.from && (a.from_port == b.from_port && (a.to == b.to && a.to_port == b.to_port))

-- of a list those that join other ports than what is there and than those before them
abbrev pub new_beside : List Link → List Link → List Link
new_beside there [] = []
new_beside there (l ∷ ls) = cond (list_any (same_ports l) there) (new_beside there ls) (l ∷ new_beside (there ++ l ∷ []) ls)

module _ (ds : List PortDef) (cs : List Component) (is : List Instance) where
  -- a pattern adds only what neither is imported nor written, nor made before
  abbrev pub made_links : List Link → List ℕ → WrittenTopology → List Link
  made_links imported held o = new_beside (imported ++ direct_links cs is o) (flat_map (pattern_links ds cs is held) o.patterns)

module _ (ts : List WrittenTopology) where
  -- an importer takes it: it is at no instance that is private in the topology
  abbrev pub is_taken : ℕ → Link → Bool
  is_taken t l = not (is_private_at ts t l.from) && not (is_private_at ts t l.to)

  -- what an importer takes of a topology, by a list of what each topology has
  abbrev pub taken_links : List Joined → ℕ → List Link
  taken_links js t = filter (is_taken t) (unwrap_or (option_map (λ (j : Joined). j.own) (slice_get js t)) [])

  abbrev pub imported_links : List Joined → List ℕ → List Link
  imported_links js closure = flat_map (taken_links js) closure

  module _ (ds : List PortDef) (cs : List Component) (is : List Instance) where
    -- its own are those that are written, and behind them those of its patterns
    pub record IsJoined (js : List Joined) (closure : List ℕ) (o : WrittenTopology) (j : Joined) : Type 0 where
      pub instances : j.instances ≡ instances_with ts closure o
      pub own : j.own ≡ direct_links cs is o ++ made_links ds cs is (imported_links js closure) j.instances o

    -- of those that lead to no cycle of imports
    pub record AreJoined (closures : List (Option (List ℕ))) (js : List Joined) : Type 0 where
      pub each : length js ≡ length ts
      pub of : (t : ℕ) (o : WrittenTopology) (c : List ℕ) (j : Joined) → slice_get ts t ≡ Some o → slice_get closures t ≡ Some (Some c) → slice_get js t ≡ Some j → IsJoined js c o j

    -- the same of the first so many of an order
    pub record AreJoinedTo (closures : List (Option (List ℕ))) (order : List ℕ) (count : ℕ) (js : List Joined) : Type 0 where
      pub each : length js ≡ length ts
      pub of : (k t : ℕ) (o : WrittenTopology) (c : List ℕ) (j : Joined) → k < count → slice_get order k ≡ Some t → slice_get ts t ≡ Some o → slice_get closures t ≡ Some (Some c) → slice_get js t ≡ Some j → IsJoined js c o j
