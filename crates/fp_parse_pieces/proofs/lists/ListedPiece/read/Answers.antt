use Rattle.std.proofs.Common.{rules, sym}
use Rattle.fp_grammar.proofs.Answering.{absent_now, refused_later, as_value}
use Rattle.fp_grammar.proofs.Steps.{map_accepts, map_refuses, optional_absent, optional_accepts, optional_refuses}
use Rattle.fp_grammar.proofs.Throughout.{fits_under, fits_inside}
use Rattle.fp_parse_pieces.proofs.lists.ListedPiece.read.Goals as goal

pub returns-then-eq-clause-parses : goal.returns-then-eq-clause-parses
returns-then-eq-clause-parses g c = λ f. as_value (sym c.new.ensures) (map_accepts (optional_absent (absent_now _ (search rules) (c.in-Err.ensures.parses (fits_inside (fits_under f))))))

pub returns-else-eq-clause-parses : goal.returns-else-eq-clause-parses
returns-else-eq-clause-parses g c = λ f. refused_later (λ to later p. map_refuses (optional_refuses later p)) _ (search rules) (c.in-Err.ensures.parses (fits_inside (fits_under f)))

pub returns-in-Ok-clause-parses : goal.returns-in-Ok-clause-parses
returns-in-Ok-clause-parses g c = λ f. map_accepts (optional_accepts (c.in-Ok.ensures.parses (fits_inside (fits_under f))))
