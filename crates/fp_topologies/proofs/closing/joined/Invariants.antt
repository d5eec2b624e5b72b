use Rattle.std.proofs.Common.{flat_map, take}
use Rattle.fp_topologies.specs.Filled.{imported_of}
use Rattle.fp_topologies.specs.ImportFirsts.{AreFirsts}
use Rattle.fp_topologies.specs.Imports.{with_imports}
use Rattle.fp_topologies.proofs.closing.joined.Given as goal

abbrev pub invariant-loop-import : goal.invariant-loop-import
invariant-loop-import l = AreFirsts (flat_map (with_imports l.closures) (imported_of (take l.import-index l.imports))) l.firsts
