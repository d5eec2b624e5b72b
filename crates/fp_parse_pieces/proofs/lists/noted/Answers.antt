use Rattle.std.proofs.Common.{ap}
use Rattle.fp_grammar.proofs.Walk.{begin, under, next}
use Rattle.fp_grammar.proofs.Rows.{row_stops, row_stops_last, row_done}
use Rattle.fp_grammar.proofs.Throughout.{fits_whole, fits_one, fits_other, fits_under}
use Rattle.fp_parse_pieces.proofs.lists.noted.Goals as goal

pub returns-in_err-lines-clause-parses : goal.returns-in_err-lines-clause-parses
returns-in_err-lines-clause-parses g c = λ f. row_stops _ _ (under (begin _ _ (fits_whole f))) c.in_err-lines.ensures c.from_residual.ensures.1

pub returns-in_err-node-clause-parses : goal.returns-in_err-node-clause-parses
returns-in_err-node-clause-parses g c = λ f. row_stops _ _ (next (under (begin _ _ (fits_whole f))) c.in_ok-lines.ensures) (c.in_err-node.ensures.parses (fits_one (fits_other (fits_under f)))) c.from_residual-in_err-node.ensures.1

pub returns-in_err-more-clause-parses : goal.returns-in_err-more-clause-parses
returns-in_err-more-clause-parses g c = λ f. row_stops_last _ _ (next (next (under (begin _ _ (fits_whole f))) c.in_ok-lines.ensures) (c.in_ok-node.ensures.parses (fits_one (fits_other (fits_under f))))) c.in_err-more.ensures c.from_residual-in_err-more.ensures.1

pub returns-clause-parses : goal.returns-clause-parses
returns-clause-parses g c = λ f. row_done (next (next (under (begin _ _ (fits_whole f))) c.in_ok-lines.ensures) (c.in_ok-node.ensures.parses (fits_one (fits_other (fits_under f))))) c.in_ok-more.ensures (ap (λ l. (c.in_ok-node.node, l)) c.in_ok-lines-2.ensures)
