-- The order of connections. This profile: by the names of instances and ports, as bytes, and what these don't tell apart as it stood.
use Rattle.std.specs.Prelude.{ℕ, List, [], slice_get, option_map, unwrap_or}
use Rattle.std.specs.Cmp.Lexicographic.{slice_cmp}
use Rattle.std.specs.List.Sorted.{IsPermutation, IsSorted, IsStable}
use Rattle.std.specs.Ordering.{nat_cmp, ordering_then}
use Rattle.std.specs.declared.cmp.Ordering.{Ordering}
use Rattle.fp_tables.specs.declared.component.Component.{Component}
use Rattle.fp_tables.specs.declared.component.Port.{Port}
use Rattle.fp_tables.specs.declared.topology.Instance.{Instance}
use Rattle.fp_tables.specs.declared.topology.Link.{Link}
use Rattle.fp_topologies.specs.Ports.{ports_at}

abbrev pub name_cmp : List ℕ → List ℕ → Ordering
name_cmp a b = slice_cmp nat_cmp a b

abbrev pub instance_name : List Instance → ℕ → List ℕ
instance_name is i = unwrap_or (option_map (λ (x : Instance). x.name) (slice_get is i)) []

module _ (cs : List Component) (is : List Instance) where
  abbrev pub port_name : ℕ → ℕ → List ℕ
  port_name i p = unwrap_or (option_map (λ (q : Port). q.name) (slice_get (ports_at cs is i) p)) []

  -- from-instance, from-port, to-instance and to-port, one after another
  abbrev pub link_cmp : Link → Link → Ordering
  link_cmp a b =
      ordering_then (name_cmp (instance_name is a.from) (instance_name is b.from))
      (ordering_then (name_cmp (port_name a.from a.from_port) (port_name b.from b.from_port))
      (ordering_then (name_cmp (instance_name is a.to) (instance_name is b.to)) (name_cmp (port_name a.to a.to_port) (port_name b.to b.to_port))))

-- the same connections in order
pub record AreInOrder (cmp : Link → Link → Ordering) (before after : List Link) : Type 0 where
  pub permutation : IsPermutation before after
  pub sorted : IsSorted cmp after
  pub stable : IsStable cmp before after
