use Rattle.std.proofs.Common.{◌≡◌, true, take}
use Rattle.fp_formats.specs.Spelling.{has_no_brace}
use Rattle.fp_type_formats.proofs.reading.before_closing.Given as goal

abbrev pub invariant-loop-at : goal.invariant-loop-at
invariant-loop-at l = has_no_brace (take l.at l.bytes) ≡ true
