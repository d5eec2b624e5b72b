use Rattle.fp_lexer.proofs.Gives.{gives_comment}
use Rattle.fp_lexer.proofs.pieces.comment_piece.Goals as goal

pub returns : goal.returns
returns c = gives_comment c.args.text.now c.args.at c.line_end.result c.requires.within c.requires.hash c.line_end.ensures.end
