use Rattle.std.proofs.Common.{◌≡◌, flat_map, take}
use Rattle.fp_meaning.specs.Owners.{counts_of}
use Rattle.fp_layout.proofs.counting.constant_counts.Given as goal

abbrev pub invariant-loop-item : goal.invariant-loop-item
invariant-loop-item l = l.found ≡ flat_map counts_of (take l.item-index l.items)
