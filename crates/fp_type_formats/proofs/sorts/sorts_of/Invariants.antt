use Rattle.std.proofs.Common.{take}
use Rattle.std.specs.Prelude.{flat_map}
use Rattle.fp_type_formats.specs.Integers.{sites_of}
use Rattle.fp_type_formats.specs.Sorted.{AreSorts}
use Rattle.fp_type_formats.proofs.sorts.sorts_of.Given as goal

abbrev pub invariant-loop-item : goal.invariant-loop-item
invariant-loop-item l = AreSorts l.names (flat_map sites_of (take l.item-index l.items)) l.found
