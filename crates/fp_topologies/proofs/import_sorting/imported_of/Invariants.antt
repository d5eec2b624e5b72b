use Rattle.std.proofs.Common.{◌≡◌, take}
use Rattle.fp_topologies.specs.Filled.{imported_of}
use Rattle.fp_topologies.proofs.import_sorting.imported_of.Given as goal

abbrev pub invariant-loop-import : goal.invariant-loop-import
invariant-loop-import l = l.imported ≡ imported_of (take l.import-index l.imports)
