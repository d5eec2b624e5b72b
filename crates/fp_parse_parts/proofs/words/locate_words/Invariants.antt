use Rattle.std.proofs.Common.{length, drop}
use Rattle.fp_grammar.specs.Grammar.Grammar.{many}
use Rattle.fp_grammar.proofs.Walk.{Reached}
use Rattle.fp_parse_pieces.specs.Kinds.{kind}
use Rattle.fp_parse_parts.specs.Members as M
use Rattle.fp_parse_parts.proofs.words.locate_words.Given as goal

-- what was read are `locate` and words, and more of them may follow
abbrev pub invariant-words : goal.invariant-words
invariant-words l = Reached kind M.locate_words (many M.reserved_word) (λ _. l.word) l.tokens l.from l.at

abbrev pub decreases-words : goal.decreases-words
decreases-words l = length (drop l.at l.tokens)
