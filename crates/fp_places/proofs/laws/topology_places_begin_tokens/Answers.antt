use Rattle.fp_places.proofs.Members.{placing_topology, placing_topology_given}
use Rattle.fp_places.proofs.laws.topology_places_begin_tokens.Goals as goal

pub returns-clause-own : goal.returns-clause-own
returns-clause-own c = placing_topology

pub returns-clause-given : goal.returns-clause-given
returns-clause-given c = placing_topology_given
