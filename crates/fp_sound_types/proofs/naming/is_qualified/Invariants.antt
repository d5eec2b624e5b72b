use Rattle.std.proofs.Common.{◌≡◌, drop}
use Rattle.fp_tables.specs.Names.{is_qualified, goes_on}
use Rattle.fp_sound_types.proofs.naming.is_qualified.Given as goal

abbrev pub invariant-loop-byte : goal.invariant-loop-byte
invariant-loop-byte l = is_qualified l.fn.text ≡ goes_on l.begun (drop l.byte-index l.byte-items)
