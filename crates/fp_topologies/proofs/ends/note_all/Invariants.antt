use Rattle.std.proofs.Common.{List, ◌++◌, take}
use Rattle.fp_tables.specs.declared.topology.Link.{Link}
use Rattle.fp_topologies.specs.Ends.{HasPorts}
use Rattle.fp_topologies.proofs.ends.note_all.Given as goal

abbrev pub invariant-loop-link : goal.invariant-loop-link
invariant-loop-link l = (there : List Link) → HasPorts l.fn.noted there → HasPorts l.noted (there ++ take l.link-index l.links)
