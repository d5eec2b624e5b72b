-- What the connections of a topology have before they are numbered, so that they are sound when they are.
use Rattle.std.specs.Prelude.{◌≡◌, ℕ, Bool, true, slice_get, Some}
use Rattle.fp_tables.specs.Lists.{is_in}
use Rattle.fp_tables.specs.Lookup.{is_input, is_output}
use Rattle.fp_tables.specs.Positions.{port_of}
use Rattle.fp_tables.specs.declared.component.Port.{Port}
use Rattle.fp_tables.specs.declared.component.Role.{Role}
use Rattle.fp_tables.specs.declared.topology.Link.{Link}
use Rattle.fp_tables.specs.declared.topology.Topology.{Topology}
use Rattle.fp_tables.specs.declared.model.Model.{Model}

-- the instance has the port, and its role is so
abbrev pub HasPort : Model → ℕ → ℕ → (Role → Bool) → Type 0
HasPort m instance port wanted = (p : Port) × (port_of m instance port ≡ Some p) × (wanted p.role ≡ true)

-- each joins instances of the topology, from an output to an input of one definition
pub record LinksAreSound (m : Model) (o : Topology) : Type 0 where
  pub begin_at_members : (k : ℕ) (l : Link) → slice_get o.links k ≡ Some l → is_in l.from o.instances ≡ true
  pub end_at_members : (k : ℕ) (l : Link) → slice_get o.links k ≡ Some l → is_in l.to o.instances ≡ true
  pub begin_at_outputs : (k : ℕ) (l : Link) → slice_get o.links k ≡ Some l → HasPort m l.from l.from_port is_output
  pub end_at_inputs : (k : ℕ) (l : Link) → slice_get o.links k ≡ Some l → HasPort m l.to l.to_port is_input
  pub join_one_definition : (k : ℕ) (l : Link) (p q : Port) → slice_get o.links k ≡ Some l → port_of m l.from l.from_port ≡ Some p → port_of m l.to l.to_port ≡ Some q → p.of ≡ q.of
