use Rattle.std.proofs.Common.{refl, sym}
use Rattle.std.proofs.lemmas.Option.{slice_get_within}
use Rattle.fp_grammar.proofs.Answering.{passing}
use Rattle.fp_grammar.proofs.Choices.{absent_unless}
use Rattle.fp_grammar.proofs.Walk.{begin, under, next, done, stop_first}
use Rattle.fp_grammar.proofs.Steps.{one_of_accepts, one_of_refuses}
use Rattle.fp_grammar.proofs.ListSteps.{many_next, many_absent}
use Rattle.fp_parse_pieces.proofs.WordsFit.{each_kind}
use Rattle.fp_parse_parts.specs.Members.{reserved_word, words_below, word_count}
use Rattle.fp_parse_parts.proofs.MembersFit.{locate_words_fits}
use Rattle.fp_parse_parts.proofs.words.locate_words.Goals as goal

pub returns-in_err-word : goal.returns-in_err-word
returns-in_err-word c = passing _ _ (λ to p. stop_first (under (begin _ _ locate_words_fits)) p) c.in_err-word.ensures c.from_residual.ensures.1

pub returns-then-not-reserved_word_at : goal.returns-then-not-reserved_word_at
returns-then-not-reserved_word_at c =
    stop_first (next (under (begin _ _ locate_words_fits)) c.in_ok-word.ensures) (one_of_refuses (words_below word_count) _ _ (λ t e m. c.if-not-reserved_word_at.ensures (t, e, m, slice_get_within _ _ _ (sym e))))

pub words-init : goal.words-init
words-init c =
    let n = c.if-not-reserved_word_at.ensures in
    next (next (under (begin _ _ locate_words_fits)) c.in_ok-word.ensures) (one_of_accepts (words_below word_count) n.0 _ _ n.1 n.2)

pub returns-then-not-reserved_word_at-2 : goal.returns-then-not-reserved_word_at-2
returns-then-not-reserved_word_at-2 c = done c.words.invariant (many_absent refl refl each_kind (absent_unless {b = reserved_word} c.if-not-reserved_word_at-2.ensures refl refl each_kind))

pub words-preserved : goal.words-preserved
words-preserved c =
    let n = c.if-not-reserved_word_at-2.ensures in
    many_next c.words.invariant (one_of_accepts (words_below word_count) n.0 _ _ n.1 n.2)
