use Rattle.std.proofs.Common.{◌≡◌, map, take}
use Rattle.fp_topologies.specs.Imports.{imported_by}
use Rattle.fp_topologies.proofs.import_sorting.imported_by_each.Given as goal

abbrev pub invariant-loop-topology : goal.invariant-loop-topology
invariant-loop-topology l = l.rows.items ≡ map imported_by (take l.topology-index l.written)
