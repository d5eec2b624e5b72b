use Rattle.std.proofs.Common.{◌≤◌, ◌∷◌, length, drop}
use Rattle.fp_grammar.specs.Grammar.Grammar.{alternating}
use Rattle.fp_grammar.specs.Throughout.{FitsThroughout}
use Rattle.fp_grammar.proofs.Walk.{Reached}
use Rattle.fp_parse_pieces.specs.Kinds.{kind}
use Rattle.fp_parse_pieces.specs.Lists.{gathered, annotated, separated_by, separators, some_noted, with_noted}
use Rattle.fp_parse_pieces.specs.Lists.ListPiece.{element}
use Rattle.fp_parse_pieces.proofs.lists.some_noted.Given as goal

-- what was read are the elements so far and one more, and a separator may follow
abbrev pub invariant-separators : goal.invariant-separators
invariant-separators g l = (l.from ≤ l.at) × (FitsThroughout kind (some_noted l.mark g.E.Element.with_note (g.E.Bare.Piece.grammar l.depth)) → Reached kind (some_noted l.mark g.E.Element.with_note (g.E.Bare.Piece.grammar l.depth)) (alternating (separated_by (separators l.mark)) (annotated (g.E.Bare.Piece.grammar l.depth))) (λ rest. gathered (with_noted g.E.Element.with_note) l.row (element l.item l.lines ∷ rest)) l.tokens l.from l.at)

abbrev pub decreases-separators : goal.decreases-separators
decreases-separators g l = length (drop l.at l.tokens)
