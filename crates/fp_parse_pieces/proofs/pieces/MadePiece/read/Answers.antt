use Rattle.fp_grammar.proofs.Rows.{made_stops, made_done}
use Rattle.fp_parse_pieces.proofs.pieces.MadePiece.read.Goals as goal

pub returns-in_err-parts-clause-parses : goal.returns-in_err-parts-clause-parses
returns-in_err-parts-clause-parses g c = λ f. made_stops f _ _ _ _ c.in_err-parts.ensures.parses c.from_residual.ensures.1

pub returns-clause-parses : goal.returns-clause-parses
returns-clause-parses g c = λ f. made_done f c.in_ok-parts.ensures.parses c.in_ok-node.ensures
