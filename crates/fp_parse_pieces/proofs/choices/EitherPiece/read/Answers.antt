use Rattle.fp_parse_pieces.proofs.Eithers.{fits_left, fits_right, either_first, either_second, neither_first, neither_second}
use Rattle.std.proofs.Common.{arith}
use Rattle.fp_parse_pieces.proofs.choices.EitherPiece.read.Goals as goal

pub returns-in-Ok-clause-parses : goal.returns-in-Ok-clause-parses
returns-in-Ok-clause-parses g c = λ f. either_first f (c.in-Ok.ensures.parses (fits_left f))

pub returns-in-Ok-read-clause-parses : goal.returns-in-Ok-read-clause-parses
returns-in-Ok-read-clause-parses g c = λ f. either_second f (c.in-Ok-read.ensures.parses (fits_right f))

pub returns-then-to-past-clause-parses : goal.returns-then-to-past-clause-parses
returns-then-to-past-clause-parses g c = λ f. neither_second c.if-to-past.true (rw c.in-Err-Unexpected.field-0-is at (c.in-Err-Unexpected.ensures.parses (fits_left f))) (rw c.in-Err-Unexpected-read.field-0-is at (c.in-Err-Unexpected-read.ensures.parses (fits_right f)))

pub returns-else-to-past-clause-parses : goal.returns-else-to-past-clause-parses
returns-else-to-past-clause-parses g c = λ f. neither_first (omega (arith, c.if-to-past.false)) (rw c.in-Err-Unexpected.field-0-is at (c.in-Err-Unexpected.ensures.parses (fits_left f))) (rw c.in-Err-Unexpected-read.field-0-is at (c.in-Err-Unexpected-read.ensures.parses (fits_right f)))
