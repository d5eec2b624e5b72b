use Rattle.fp_component_forms.proofs.Lists.{EachIs}
use Rattle.fp_tree.specs.declared.source.Source.{Source}
use Rattle.fp_meaning.specs.Layout.{connection_items}
use Rattle.fp_meaning.specs.Names.{Path}
use Rattle.fp_topology_forms.specs.Taken.{AreRanks}
use Rattle.fp_topology_forms.specs.Written.{ConnectionIs}
use Rattle.fp_topology_forms.proofs.Growing.{GrownFirst}
use Rattle.fp_topology_forms.proofs.connections.connections_taken.Given as goal

abbrev pub invariant-loop-connection : goal.invariant-loop-connection
invariant-loop-connection l =
    (source : Source) (scope : Path) → AreRanks source l.ranks
    → GrownFirst (EachIs (ConnectionIs source scope)) (connection_items scope) source l.marks l.resolutions l.connections l.connection-index l.initial.next l.next l.row
