use Rattle.fp_parse_parts.proofs.Reaching.{answered_there}
use Rattle.fp_parse_parts.proofs.parsing.parse.Goals as goal

pub returns-in-Unit : goal.returns-in-Unit
returns-in-Unit c = answered_there _ _ _ _ _ c.as_slice-tokens.ensures c.in-Unit.is c.of_unit.ensures

pub returns-in-Component : goal.returns-in-Component
returns-in-Component c = answered_there _ _ _ _ _ c.as_slice-tokens.ensures c.in-Component.is c.of_component.ensures

pub returns-in-Topology : goal.returns-in-Topology
returns-in-Topology c = answered_there _ _ _ _ _ c.as_slice-tokens.ensures c.in-Topology.is c.of_topology.ensures
