use Rattle.std.proofs.Common.{ℕ, ◌+◌, sym, ap, ◌∙◌}
use Rattle.fp_lexer.proofs.Gives.{gives_after, gives_before}
use Rattle.fp_lexer.proofs.pieces.annotation_piece.Goals as goal

pub returns-then-byte_at-eq60 : goal.returns-then-byte_at-eq60
returns-then-byte_at-eq60 c = gives_after c.args.text.now c.args.at c.line_end-past.result c.requires.within c.requires.sign (sym c.byte_at.ensures ∙ c.if-byte_at-eq60.true) c.line_end-past.ensures.end c.line_end-past.ensures.within

pub returns-else-byte_at-eq60 : goal.returns-else-byte_at-eq60
returns-else-byte_at-eq60 c = gives_before c.args.text.now c.args.at c.line_end-past-else-byte_at-eq60.result _ c.requires.within c.requires.sign (λ z. c.if-byte_at-eq60.false (c.byte_at.ensures ∙ z))
    c.line_end-past-else-byte_at-eq60.ensures.end c.line_end-past-else-byte_at-eq60.ensures.within (ap (λ (k : ℕ). c.line_end-past-else-byte_at-eq60.result + k) c.newline_len.ensures.len)
