use Rattle.std.proofs.Common.{sym, ◌∙◌, refl, arith}
use Rattle.fp_lexer.proofs.Gives.{gives_slash, slash_begins_none, not_quote}
use Rattle.fp_lexer.proofs.pieces.continuation_piece.Goals as goal

pub returns-then-newline-eq0 : goal.returns-then-newline-eq0
returns-then-newline-eq0 c = rw c.bad.ensures (refl, not_quote c.args.text.now c.args.at 92 c.requires.backslash (omega arith), slash_begins_none c.args.text.now c.args.at c.requires.within c.requires.backslash (sym c.newline_len-newline.ensures.len ∙ c.if-newline-eq0.true))

pub returns-else-newline-eq0 : goal.returns-else-newline-eq0
returns-else-newline-eq0 c = gives_slash c.args.text.now c.args.at c.newline_len-newline.result c.requires.within c.requires.backslash c.newline_len-newline.ensures.len c.if-newline-eq0.false
