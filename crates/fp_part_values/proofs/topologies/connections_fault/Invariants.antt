use Rattle.std.proofs.Common.{[]}
use Rattle.fp_tree.specs.declared.source.Source.{Source}
use Rattle.fp_meaning.specs.Names.{Path}
use Rattle.fp_meaning.specs.Layout.{connection_items}
use Rattle.fp_part_values.specs.Numbers.{connection_numbers}
use Rattle.fp_part_values.proofs.Looping.{FaultsFirst}
use Rattle.fp_part_values.proofs.topologies.connections_fault.Given as goal

abbrev pub invariant-loop-connection : goal.invariant-loop-connection
invariant-loop-connection l = (source : Source) (scope : Path) → FaultsFirst (connection_items scope) (λ x. []) connection_numbers source l.marks l.resolutions scope l.connections l.connection-index l.initial.next l.next l.first
