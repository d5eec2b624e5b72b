use Rattle.std.proofs.Common.{List, drop}
use Rattle.fp_type_sizes.specs.declared.written.WrittenType.{WrittenType}
use Rattle.fp_type_sizes.specs.Sized.{AreSoundExtents}
use Rattle.fp_type_sizes.proofs.Counted.{IsRunning}
use Rattle.fp_type_sizes.proofs.sizing.fields_size.Given as goal

abbrev pub invariant-loop-field : goal.invariant-loop-field
invariant-loop-field l = (ws : List WrittenType) → AreSoundExtents ws l.table → IsRunning ws l.fields (drop l.field-index l.fields) l.sum
