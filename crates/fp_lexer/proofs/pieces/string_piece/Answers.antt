use Rattle.std.proofs.Common.{sym, refl}
use Rattle.fp_lexer.proofs.Gives.{gives_string, open_none}
use Rattle.fp_lexer.proofs.pieces.string_piece.Goals as goal

pub returns-in-Some : goal.returns-in-Some
returns-in-Some c =
    let e = c.in-Some.ensures in
    gives_string c.args.text.now c.args.at c.in-Some.past c.requires.within c.requires.quote (sym c.if-begins_long.ensures) e.0 e.1 e.2

pub returns-in-None : goal.returns-in-None
returns-in-None c = rw c.open_string.ensures (refl, c.requires.quote, open_none c.args.text.now c.args.at c.requires.within c.requires.quote (sym c.if-begins_long.ensures) c.in-None.ensures)
