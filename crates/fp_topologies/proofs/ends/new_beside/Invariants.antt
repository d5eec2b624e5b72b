use Rattle.std.proofs.Common.{List}
use Rattle.fp_tables.specs.declared.topology.Link.{Link}
use Rattle.fp_topologies.specs.Ends.{AreTaken, HasPorts}
use Rattle.fp_topologies.proofs.ends.new_beside.Given as goal

abbrev pub invariant-loop-link : goal.invariant-loop-link
invariant-loop-link l = (there : List Link) → HasPorts l.fn.noted there → AreTaken there l.links l.link-index l.noted l.taken
