use Rattle.std.proofs.Common.{sym, refl, arith}
use Rattle.fp_lexer.proofs.GivesLong.{long_read, bad_flaw, bad_in_text, gives_long, unclosed}
use Rattle.fp_lexer.proofs.pieces.long_piece.Goals as goal

pub overflow_add-at-in-Some-bad_escape-2 : goal.overflow_add-at-in-Some-bad_escape-2
overflow_add-at-in-Some-bad_escape-2 c =
    let e = c.in-Some.ensures in
    let r = long_read c.args.text.now c.args.at c.in-Some.past c.requires.within c.requires.quote c.requires.long e.0 e.2 in
    let h = bad_in_text c.args.text.now c.args.at c.in-Some.past c.in-Some-bad_escape.before r (sym c.in-Some-bad_escape.ensures) in
    omega (arith, h, c.in-Some.ensures)

pub returns-in-Some-bad_escape : goal.returns-in-Some-bad_escape
returns-in-Some-bad_escape c =
    let e = c.in-Some.ensures in
    let r = long_read c.args.text.now c.args.at c.in-Some.past c.requires.within c.requires.quote c.requires.long e.0 e.2 in
    rw c.bad_escape_at.ensures (bad_flaw c.args.text.now c.args.at c.in-Some.past c.in-Some-bad_escape.before r (sym c.in-Some-bad_escape.ensures))

pub returns-in-None : goal.returns-in-None
returns-in-None c =
    let e = c.in-Some.ensures in
    let r = long_read c.args.text.now c.args.at c.in-Some.past c.requires.within c.requires.quote c.requires.long e.0 e.2 in
    gives_long c.args.text.now c.args.at c.in-Some.past c.requires.within c.requires.quote c.requires.long e.0 e.1 r (sym c.in-None.ensures)

pub returns-in_default : goal.returns-in_default
returns-in_default c = rw c.open_string.ensures (refl, c.requires.quote, unclosed c.args.text.now c.args.at c.requires.within c.requires.quote c.requires.long c.in_default.ensures)
