use Rattle.std.proofs.Common.{length, drop}
use Rattle.std.specs.Prelude.{true}
use Rattle.fp_grammar.specs.Grammar.{after}
use Rattle.fp_grammar.specs.Grammar.Grammar.{map}
use Rattle.fp_grammar.proofs.ChainSteps.{Building}
use Rattle.fp_parse_pieces.specs.Kinds.{kind, k_dot}
use Rattle.fp_parse_pieces.specs.Words as W
use Rattle.fp_parse_pieces.proofs.words.qualified_name.Given as goal

-- what was read is the name so far, and more names may follow
abbrev pub invariant-names : goal.invariant-names
invariant-names l = Building kind (map W.one_name W.name) (after k_dot W.name) (λ _. true) W.longer l.tokens l.from l.qual l.at

abbrev pub decreases-names : goal.decreases-names
decreases-names l = length (drop l.at l.tokens)
