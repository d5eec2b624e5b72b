use Rattle.fp_lexer.proofs.Rises.{spans_rise}
use Rattle.fp_lexer.proofs.lexing.spans_rise.Goals as goal

pub returns : goal.returns
returns c file text tokens l = spans_rise file text tokens l
