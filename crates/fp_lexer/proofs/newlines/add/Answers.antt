use Rattle.std.proofs.Common.{sym, ◌∙◌, ap, List, ◌++◌}
use Rattle.fp_lexer.specs.Found.{resume, ground_of}
use Rattle.fp_lexer.specs.Newlines.{kept, after}
use Rattle.fp_lexer.specs.declared.token.Token.{Token}
use Rattle.fp_lexer.specs.declared.newlines.Standing.{Standing}
use Rattle.fp_lexer.proofs.Kept.{newline_step, resume_after, push_one}
use Rattle.fp_lexer.proofs.newlines.add.Goals as goal

pub returns-then-is_newline : goal.returns-then-is_newline
returns-then-is_newline c rest =
    ap (λ (ts : List Token). c.args.tokens.now ++ ts) (newline_step c.args.standing c.args.word c.args.span rest (sym c.if-is_newline.ensures))
    ∙ sym (ap (λ (x : Standing). c.args.tokens.now ++ resume x rest) c.after_newline.ensures)

pub returns-in_ok-push : goal.returns-in_ok-push
returns-in_ok-push c rest = c.in_ok-settle.ensures c.args.span rest
    ∙ sym (push_one c.settle.new.tokens (record { what = c.args.word; at = c.args.span }) (kept (after (ground_of c.args.standing) c.args.word) rest))
    ∙ sym (ap (λ (ts : List Token). ts ++ kept (after (ground_of c.args.standing) c.args.word) rest) c.in_ok-push.ensures.ok)
    ∙ sym (ap (λ (ts : List Token). c.push.new.self ++ ts) (ap (λ (x : Standing). resume x rest) c.after_word-after.ensures ∙ resume_after (after (ground_of c.args.standing) c.args.word) rest))
