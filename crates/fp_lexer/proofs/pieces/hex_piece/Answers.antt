use Rattle.std.proofs.Common.{refl}
use mir.Syntax.{w128}
use Rattle.std.proofs.lemmas.Int.{to_z_pos}
use Rattle.fp_lexer.proofs.Gives.{gives_hex, large_hex}
use Rattle.fp_lexer.proofs.pieces.hex_piece.Goals as goal

pub returns-in-Some : goal.returns-in-Some
returns-in-Some c =
    let e = c.in-Some.ensures in
    gives_hex c.args.text.now c.args.at c.in-Some.past c.in-Some.value _ c.requires.within c.requires.hex (to_z_pos w128 c.in-Some.value e.0) e.0 e.1 e.2

pub returns-in-None : goal.returns-in-None
returns-in-None c = rw c.too_large.ensures (refl, large_hex c.args.text.now c.args.at c.requires.within c.requires.hex c.in-None.ensures)
