use Rattle.fp_topology_forms.specs.Written.{TopologyIs, topology_of}
use Rattle.fp_topology_forms.proofs.Items.{GivesFirst}
use Rattle.fp_topology_forms.proofs.writing.topologies_in.Given as goal

abbrev pub invariant-loop-index : goal.invariant-loop-index
invariant-loop-index l = GivesFirst TopologyIs topology_of l.ranks l.marks l.resolutions l.items l.index l.written
