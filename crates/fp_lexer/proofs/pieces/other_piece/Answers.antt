use Rattle.std.proofs.Common.{sym, ◌∙◌, ap, get_or, arith, refl}
use Rattle.fp_lexer.specs.Scan.{other}
use Rattle.fp_lexer.proofs.Gives.{gives_other, none_begins, piece_within}
use Rattle.fp_lexer.proofs.pieces.other_piece.Goals as goal

pub returns-in-Some : goal.returns-in-Some
returns-in-Some c = gives_other c.args.text.now c.args.at c.in-Some.length c.in-Some.shape c.requires.within c.requires.no_letter c.requires.no_digit c.requires.no_hash c.requires.no_sign c.requires.no_quote c.requires.no_dollar c.requires.no_backslash
    (ap (other (get_or c.args.text.now c.args.at 0)) (sym c.byte_at.ensures) ∙ sym c.in-Some.ensures)

pub overflow_add-result : goal.overflow_add-result
overflow_add-result c =
    let g = gives_other c.args.text.now c.args.at c.in-Some.length c.in-Some.shape c.requires.within c.requires.no_letter c.requires.no_digit c.requires.no_hash c.requires.no_sign c.requires.no_quote c.requires.no_dollar c.requires.no_backslash
    (ap (other (get_or c.args.text.now c.args.at 0)) (sym c.byte_at.ensures) ∙ sym c.in-Some.ensures) in
    let h = piece_within c.args.text.now _ g.0 (omega arith) in
    omega (arith, h)

pub returns-in-None : goal.returns-in-None
returns-in-None c = rw c.bad.ensures (
  refl,
  c.requires.no_quote,
  none_begins c.args.text.now c.args.at c.requires.within c.requires.no_letter c.requires.no_digit c.requires.no_hash c.requires.no_sign c.requires.no_quote c.requires.no_dollar c.requires.no_backslash
      (ap (other (get_or c.args.text.now c.args.at 0)) (sym c.byte_at.ensures) ∙ sym c.in-None.ensures),
)
