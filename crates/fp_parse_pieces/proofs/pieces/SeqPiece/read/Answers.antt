use Rattle.std.proofs.Common.{refl}
use Rattle.fp_grammar.proofs.Walk.{begin, next}
use Rattle.fp_grammar.proofs.Rows.{row_stops, row_stops_last, row_done}
use Rattle.fp_grammar.proofs.Throughout.{fits_whole, fits_one, fits_other}
use Rattle.fp_parse_pieces.proofs.pieces.SeqPiece.read.Goals as goal

pub returns-in_err-one-clause-parses : goal.returns-in_err-one-clause-parses
returns-in_err-one-clause-parses g c = λ f. row_stops _ _ (begin _ _ (fits_whole f)) (c.in_err-one.ensures.parses (fits_one f)) c.from_residual.ensures.1

pub returns-in_err-other-clause-parses : goal.returns-in_err-other-clause-parses
returns-in_err-other-clause-parses g c = λ f. row_stops_last _ _ (next (begin _ _ (fits_whole f)) (c.in_ok-one.ensures.parses (fits_one f))) (c.in_err-other.ensures.parses (fits_other f)) c.from_residual-in_err-other.ensures.1

pub returns-clause-parses : goal.returns-clause-parses
returns-clause-parses g c = λ f. row_done (next (begin _ _ (fits_whole f)) (c.in_ok-one.ensures.parses (fits_one f))) (c.in_ok-other.ensures.parses (fits_other f)) refl
