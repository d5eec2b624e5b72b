-- The ports of instances, by their names, and the connections that are written. FPP Language Specification, "Connection Graph Specifiers".
use Rattle.std.specs.Prelude.{ℕ, ℤ, List, [], filter_map, position, slice_get, Option, option_map, option_and_then, unwrap_or}
use Rattle.std.specs.Str.{bytes_eq}
use Rattle.fp_tables.specs.Positions.{component_among}
use Rattle.fp_tables.specs.declared.component.Component.{Component}
use Rattle.fp_tables.specs.declared.component.Port.{Port}
use Rattle.fp_tables.specs.declared.topology.Instance.{Instance}
use Rattle.fp_tables.specs.declared.topology.Link.{Link}
use Rattle.fp_tables.specs.declared.topology.Written.{Written}
use Rattle.fp_written_parts.specs.declared.port.Given.{Given}
use Rattle.fp_written_parts.specs.declared.topology.WrittenConnection.{WrittenConnection}
use Rattle.fp_written_parts.specs.declared.topology.WrittenPortUse.{WrittenPortUse}
use Rattle.fp_written_parts.specs.declared.topology.WrittenTopology.{WrittenTopology}
use Rattle.fp_topologies.specs.declared.facts.ConnectionFacts.{ConnectionFacts}
use Rattle.fp_topologies.specs.declared.facts.EndFacts.{EndFacts}
use Rattle.fp_topologies.specs.declared.facts.JoinedPort.{JoinedPort}

-- a number with its place
abbrev pub written_number : Given → Option Written
written_number g = option_map (λ (n : ℤ). record { number = n; at = g.at }) g.number

-- what the rules of connections look at of a port
abbrev pub joined_port : Port → JoinedPort
joined_port p = record { role = p.role; of = p.of }

-- a connection that is written, between these ports
abbrev pub link_between : WrittenConnection → ℕ → ℕ → Link
link_between c from_port to_port =
    record {
      from = c.from.used.instance;
      from_port = from_port;
      from_number = option_and_then written_number c.from.number;
      to = c.to.used.instance;
      to_port = to_port;
      to_number = option_and_then written_number c.to.number;
      unmatched = c.unmatched;
      at = c.at;
    }

module _ (cs : List Component) (is : List Instance) where
  -- the ports of an instance
  abbrev pub ports_at : ℕ → List Port
  ports_at i = unwrap_or (option_map (λ (c : Component). c.ports) (component_among cs is i)) []

  -- names of ports differ in a component that breaks no rule; else the first counts
  abbrev pub port_named : ℕ → List ℕ → Option ℕ
  port_named i name = position (λ (p : Port). bytes_eq p.name name) (ports_at i)

  abbrev pub port_used : WrittenPortUse → Option ℕ
  port_used u = port_named u.used.instance u.port

  -- ---- what the rules of connections look at

  abbrev pub end_facts : WrittenPortUse → EndFacts
  end_facts u = record { at = u.used.at; port = option_map joined_port (option_and_then (slice_get (ports_at u.used.instance)) (port_used u)) }

  abbrev pub connection_facts : WrittenConnection → ConnectionFacts
  connection_facts c = record { at = c.at; from = end_facts c.from; to = end_facts c.to }

  -- ---- the connections of a topology that are written themselves

  -- where both components have the port
  abbrev pub link_of : WrittenConnection → Option Link
  link_of c = option_and_then (λ (p : ℕ). option_map (link_between c p) (port_used c.to)) (port_used c.from)

  abbrev pub direct_links : WrittenTopology → List Link
  direct_links o = filter_map link_of o.connections
