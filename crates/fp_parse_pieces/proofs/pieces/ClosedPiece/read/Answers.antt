use Rattle.std.proofs.Common.{refl}
use Rattle.fp_grammar.proofs.Walk.{begin, under, next}
use Rattle.fp_grammar.proofs.Rows.{row_stops, row_stops_last, row_done}
use Rattle.fp_grammar.proofs.Throughout.{fits_whole, fits_one, fits_under}
use Rattle.fp_parse_pieces.proofs.pieces.ClosedPiece.read.Goals as goal

pub returns-in_err-found-clause-parses : goal.returns-in_err-found-clause-parses
returns-in_err-found-clause-parses g c = λ f. row_stops _ _ (under (begin _ _ (fits_whole f))) (c.in_err-found.ensures.parses (fits_one (fits_under f))) c.from_residual.ensures.1

pub returns-in_err-at-clause-parses : goal.returns-in_err-at-clause-parses
returns-in_err-at-clause-parses g c = λ f. row_stops_last _ _ (next (under (begin _ _ (fits_whole f))) (c.in_ok-found.ensures.parses (fits_one (fits_under f)))) c.in_err-at.ensures c.from_residual-in_err-at.ensures.1

pub returns-clause-parses : goal.returns-clause-parses
returns-clause-parses g c = λ f. row_done (next (under (begin _ _ (fits_whole f))) (c.in_ok-found.ensures.parses (fits_one (fits_under f)))) c.in_ok-at.ensures.1 refl
