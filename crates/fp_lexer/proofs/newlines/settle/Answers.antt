use Rattle.std.proofs.Common.{sym, ◌∙◌, ap, List, ◌++◌, ◌∷◌}
use Rattle.fp_lexer.specs.Found.{resume, ground_of}
use Rattle.fp_lexer.specs.Newlines.{kept, after, counts, ignored, separated}
use Rattle.fp_lexer.specs.declared.token.Token.{Token}
use Rattle.fp_lexer.specs.declared.token.Word.TheVariants.{Newline}
use Rattle.fp_lexer.specs.declared.newlines.Standing.{Standing}
use Rattle.fp_lexer.proofs.Kept.{kept_word, pending_ignored, pending_counts, push_one}
use Rattle.fp_lexer.proofs.newlines.settle.Goals as goal

pub returns-in-Counts : goal.returns-in-Counts
returns-in-Counts c span rest =
    ap (λ (x : Standing). c.args.tokens.now ++ resume x ((record { what = c.args.word.now; at = span }) ∷ rest)) c.in-Counts.is
    ∙ ap (λ (ts : List Token). c.args.tokens.now ++ ts) (kept_word counts c.args.word.now span rest c.requires)
    ∙ sym (ap (λ (x : Standing). c.args.tokens.now ++ (record { what = c.args.word.now; at = span }) ∷ kept (after (ground_of x) c.args.word.now) rest) c.in-Counts.is)

pub returns-in-Ignored : goal.returns-in-Ignored
returns-in-Ignored c span rest =
    ap (λ (x : Standing). c.args.tokens.now ++ resume x ((record { what = c.args.word.now; at = span }) ∷ rest)) c.in-Ignored.is
    ∙ ap (λ (ts : List Token). c.args.tokens.now ++ ts) (kept_word ignored c.args.word.now span rest c.requires)
    ∙ sym (ap (λ (x : Standing). c.args.tokens.now ++ (record { what = c.args.word.now; at = span }) ∷ kept (after (ground_of x) c.args.word.now) rest) c.in-Ignored.is)

pub returns-in-Separated : goal.returns-in-Separated
returns-in-Separated c span rest =
    ap (λ (x : Standing). c.args.tokens.now ++ resume x ((record { what = c.args.word.now; at = span }) ∷ rest)) c.in-Separated.is
    ∙ ap (λ (ts : List Token). c.args.tokens.now ++ ts) (kept_word separated c.args.word.now span rest c.requires)
    ∙ sym (ap (λ (x : Standing). c.args.tokens.now ++ (record { what = c.args.word.now; at = span }) ∷ kept (after (ground_of x) c.args.word.now) rest) c.in-Separated.is)

pub returns-then-ignored_before : goal.returns-then-ignored_before
returns-then-ignored_before c span rest =
    ap (λ (x : Standing). c.args.tokens.now ++ resume x ((record { what = c.args.word.now; at = span }) ∷ rest)) c.in-Pending.is
    ∙ ap (λ (ts : List Token). c.args.tokens.now ++ ts) (pending_ignored c.in-Pending.span c.args.word.now span rest c.requires (sym c.if-ignored_before.ensures))
    ∙ sym (ap (λ (x : Standing). c.args.tokens.now ++ (record { what = c.args.word.now; at = span }) ∷ kept (after (ground_of x) c.args.word.now) rest) c.in-Pending.is)

pub returns-in_ok-push-in-Pending : goal.returns-in_ok-push-in-Pending
returns-in_ok-push-in-Pending c span rest =
    ap (λ (x : Standing). c.args.tokens.now ++ resume x ((record { what = c.args.word.now; at = span }) ∷ rest)) c.in-Pending.is
    ∙ ap (λ (ts : List Token). c.args.tokens.now ++ ts) (pending_counts c.in-Pending.span c.args.word.now span rest c.requires (sym c.if-ignored_before.ensures))
    ∙ sym (push_one c.args.tokens.now (record { what = Newline; at = c.in-Pending.span }) ((record { what = c.args.word.now; at = span }) ∷ kept (after ignored c.args.word.now) rest))
    ∙ sym (ap (λ (ts : List Token). ts ++ (record { what = c.args.word.now; at = span }) ∷ kept (after ignored c.args.word.now) rest) c.in_ok-push-in-Pending.ensures.ok)
    ∙ sym (ap (λ (x : Standing). c.push.new.self ++ (record { what = c.args.word.now; at = span }) ∷ kept (after (ground_of x) c.args.word.now) rest) c.in-Pending.is)
