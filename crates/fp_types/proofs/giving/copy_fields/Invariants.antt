use Rattle.std.proofs.Common.{◌≡◌, take}
use Rattle.fp_types.proofs.giving.copy_fields.Given as goal

abbrev pub invariant-loop-field : goal.invariant-loop-field
invariant-loop-field l = l.row ≡ take l.field-index l.fields
