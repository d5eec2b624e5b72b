use Rattle.std.proofs.Common.{◌++◌, length, drop}
use Rattle.fp_grammar.proofs.Walk.{Reached}
use Rattle.fp_parse_pieces.specs.Kinds.{kind}
use Rattle.fp_parse_pieces.specs.Lists as L
use Rattle.fp_parse_pieces.proofs.notes.before_lines.Given as goal

-- what was read are the lines so far, and more of them may follow
abbrev pub invariant-lines : goal.invariant-lines
invariant-lines l = Reached kind L.before_lines L.before_lines (λ rest. l.lines ++ rest) l.tokens l.from l.at

abbrev pub decreases-lines : goal.decreases-lines
decreases-lines l = length (drop l.at l.tokens)
