use Rattle.std.proofs.Common.{◌≡◌, length, List}
use Rattle.fp_type_sizes.specs.declared.written.WrittenType.{WrittenType}
use Rattle.fp_types.specs.Making.{AreSoundDefaults}
use Rattle.fp_types.proofs.defaulting.no_defaults.Given as goal

abbrev pub invariant-loop-at : goal.invariant-loop-at
invariant-loop-at l = (length l.table.items ≡ l._at) × ((ws : List WrittenType) → AreSoundDefaults ws l.table.items)
