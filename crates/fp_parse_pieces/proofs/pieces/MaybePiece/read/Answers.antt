use Rattle.std.proofs.Common.{rules}
use Rattle.fp_grammar.proofs.Answering.{absent_now, refused_later}
use Rattle.fp_grammar.proofs.Steps.{optional_absent, optional_accepts, optional_refuses}
use Rattle.fp_grammar.proofs.Throughout.{fits_inside}
use Rattle.fp_parse_pieces.proofs.pieces.MaybePiece.read.Goals as goal

pub returns-then-eq-clause-parses : goal.returns-then-eq-clause-parses
returns-then-eq-clause-parses g c = λ f. optional_absent (absent_now _ (search rules) (c.in-Err.ensures.parses (fits_inside f)))

pub returns-else-eq-clause-parses : goal.returns-else-eq-clause-parses
returns-else-eq-clause-parses g c = λ f. refused_later (λ to later p. optional_refuses later p) _ (search rules) (c.in-Err.ensures.parses (fits_inside f))

pub returns-in-Ok-clause-parses : goal.returns-in-Ok-clause-parses
returns-in-Ok-clause-parses g c = λ f. optional_accepts (c.in-Ok.ensures.parses (fits_inside f))
