use Rattle.std.proofs.Common.{◌≡◌, ◌++◌, flat_map, take}
use Rattle.fp_meaning.specs.Layout.{connection_items}
use Rattle.fp_layout.proofs.topologies.of_connections.Given as goal

abbrev pub invariant-loop-connection : goal.invariant-loop-connection
invariant-loop-connection l = l.found ≡ l.initial.found ++ flat_map (connection_items l.scope) (take l.connection-index l.connections)
