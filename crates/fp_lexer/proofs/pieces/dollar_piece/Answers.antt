use Rattle.std.proofs.Common.{sym, ◌∙◌, ap, refl, arith}
use Rattle.fp_base.specs.Names.{is_letter}
use Rattle.fp_lexer.proofs.Gives.{gives_dollar, dollar_begins_none, letter_within, not_quote}
use Rattle.fp_lexer.proofs.pieces.dollar_piece.Goals as goal

pub returns : goal.returns
returns c =
    let l = sym (ap is_letter c.byte_at.ensures) ∙ sym c.if-not-is_letter.ensures in
    gives_dollar c.args.text.now c.args.at c.name_end-past.result c.requires.within c.requires.dollar (letter_within c.args.text.now _ l) l c.name_end-past.ensures.run

pub returns-then-not-is_letter : goal.returns-then-not-is_letter
returns-then-not-is_letter c = rw c.bad.ensures (refl, not_quote c.args.text.now c.args.at 36 c.requires.dollar (omega arith), dollar_begins_none c.args.text.now c.args.at c.requires.within c.requires.dollar (sym (ap is_letter c.byte_at.ensures) ∙ sym c.if-not-is_letter.ensures))
