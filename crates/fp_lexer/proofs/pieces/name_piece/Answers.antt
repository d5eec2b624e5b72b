use Rattle.fp_lexer.proofs.Gives.{gives_reserved, gives_name}
use Rattle.fp_lexer.proofs.pieces.name_piece.Goals as goal

pub returns-in-Some : goal.returns-in-Some
returns-in-Some c = gives_reserved c.args.text.now c.args.at c.name_end-past.result c.in-Some.number c.requires.within c.requires.letter c.name_end-past.ensures.run c.in-Some.ensures

pub returns-in-None : goal.returns-in-None
returns-in-None c = gives_name c.args.text.now c.args.at c.name_end-past.result c.requires.within c.requires.letter c.name_end-past.ensures.run c.in-None.ensures
