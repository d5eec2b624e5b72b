use Rattle.std.proofs.Common.{◌≡◌, length, List}
use Rattle.fp_type_sizes.specs.declared.written.WrittenType.{WrittenType}
use Rattle.fp_type_sizes.specs.Sized.{AreSoundExtents}
use Rattle.fp_type_sizes.proofs.sizing.no_extents.Given as goal

abbrev pub invariant-loop-at : goal.invariant-loop-at
invariant-loop-at l = (length l.table.items ≡ l._at) × ((ws : List WrittenType) → AreSoundExtents ws l.table.items)
