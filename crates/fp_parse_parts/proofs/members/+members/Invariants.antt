use Rattle.std.proofs.Common.{◌+◌, ◌*◌, ◌∷◌, length, drop}
use Rattle.fp_grammar.specs.Grammar.Grammar.{alternating}
use Rattle.fp_grammar.proofs.Walk.{Reached}
use Rattle.fp_parse_pieces.specs.Kinds.{kind}
use Rattle.fp_parse_pieces.specs.Lists.{gathered, annotated, separated_by}
use Rattle.fp_parse_pieces.specs.Lists.ListPiece.{element}
use Rattle.fp_parse_parts.specs.Members as M
use Rattle.fp_parse_parts.specs.Members.{semicolons, with_member}
use Rattle.fp_parse_parts.proofs.members.+members.Given as goal

abbrev pub decreases-nested_module : goal.decreases-nested_module
decreases-nested_module l = 10 * l.depth

abbrev pub decreases-member : goal.decreases-member
decreases-member l = 10 * l.depth + 1

abbrev pub decreases-boxed_member : goal.decreases-boxed_member
decreases-boxed_member l = 10 * l.depth + 2

abbrev pub decreases-annotated_member : goal.decreases-annotated_member
decreases-annotated_member l = 10 * l.depth + 3

abbrev pub decreases-some_members : goal.decreases-some_members
decreases-some_members l = 10 * l.depth + 4

abbrev pub decreases-members : goal.decreases-members
decreases-members l = 10 * l.depth + 5

abbrev pub decreases-opened_module : goal.decreases-opened_module
decreases-opened_module l = 10 * l.depth + 6

-- what was read are the members so far and one more, and a separator may follow
abbrev pub invariant-some_members-separators : goal.invariant-some_members-separators
invariant-some_members-separators l = Reached kind (M.some_members l.expressions l.depth) (alternating (separated_by semicolons) (annotated (M.member l.expressions l.depth))) (λ rest. gathered with_member l.all_members (element l.item l.lines ∷ rest)) l.tokens l.from l.at

abbrev pub decreases-some_members-separators : goal.decreases-some_members-separators
decreases-some_members-separators l = length (drop l.at l.tokens)
