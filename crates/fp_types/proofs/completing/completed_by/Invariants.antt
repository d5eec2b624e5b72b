use Rattle.std.proofs.Common.{List, take}
use Rattle.fp_type_sizes.specs.declared.written.WrittenType.{WrittenType}
use Rattle.fp_types.specs.Converting.{Completes}
use Rattle.fp_types.specs.Making.{AreSoundDefaults}
use Rattle.fp_types.proofs.completing.completed_by.Given as goal

abbrev pub invariant-loop-field : goal.invariant-loop-field
invariant-loop-field l = (ws : List WrittenType) → AreSoundDefaults ws l.defaults → Completes ws l.rest l.given (take l.field-index l.fields) l.row
