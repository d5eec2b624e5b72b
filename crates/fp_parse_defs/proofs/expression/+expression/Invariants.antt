use Rattle.std.proofs.Common.{[], ◌+◌, ◌*◌, ◌≤◌, ◌∷◌, length, drop}
use Rattle.fp_grammar.specs.Grammar.Grammar.{seq, alternating}
use Rattle.fp_grammar.proofs.Walk.{Reached}
use Rattle.fp_grammar.proofs.ChainSteps.{Building}
use Rattle.fp_parse_pieces.specs.Kinds.{kind, k_dot, k_times, k_over}
use Rattle.fp_parse_defs.specs.Words.{plus_minus, times_over}
use Rattle.fp_parse_pieces.specs.Lists.{gathered, annotated, separated_by, commas}
use Rattle.fp_parse_pieces.specs.Lists.ListPiece.{element}
use Rattle.fp_parse_defs.specs.Language
use Rattle.fp_parse_defs.specs.Language.{level, operand_of, lower, combined, with_item, with_member}
use Rattle.fp_parse_defs.proofs.expression.+expression.Given as goal

abbrev pub decreases-nested : goal.decreases-nested
decreases-nested l = 10 * l.depth + 0

abbrev pub decreases-factor : goal.decreases-factor
decreases-factor l = 10 * l.depth + 1

abbrev pub decreases-term : goal.decreases-term
decreases-term l = 10 * l.depth + 2

abbrev pub decreases-expression : goal.decreases-expression
decreases-expression l = 10 * l.depth + 3

abbrev pub decreases-setting : goal.decreases-setting
decreases-setting l = 10 * l.depth + 4

abbrev pub decreases-noted_expression : goal.decreases-noted_expression
decreases-noted_expression l = 10 * l.depth + 4

abbrev pub decreases-noted_setting : goal.decreases-noted_setting
decreases-noted_setting l = 10 * l.depth + 5

abbrev pub decreases-items : goal.decreases-items
decreases-items l = 10 * l.depth + 5

abbrev pub decreases-some_members : goal.decreases-some_members
decreases-some_members l = 10 * l.depth + 6

abbrev pub decreases-members : goal.decreases-members
decreases-members l = 10 * l.depth + 7

abbrev pub decreases-bracketed : goal.decreases-bracketed
decreases-bracketed l = 10 * l.depth + 8

abbrev pub decreases-braced : goal.decreases-braced
decreases-braced l = 10 * l.depth + 8

abbrev pub decreases-group : goal.decreases-group
decreases-group l = 10 * l.depth + 4

abbrev pub decreases-negated : goal.decreases-negated
decreases-negated l = 10 * l.depth + 4

abbrev pub decreases-inside : goal.decreases-inside
decreases-inside l = 10 * l.depth + 9

-- what was read is the sum so far, and more of it may follow
abbrev pub invariant-expression-summands : goal.invariant-expression-summands
invariant-expression-summands l = Building kind (Language.term l.depth) (seq plus_minus (operand_of l.depth (level l.depth).term (k_dot ∷ k_times ∷ k_over ∷ []))) (lower l.depth) combined l.tokens l.from l.sum l.at × (l.sum.height ≤ l.depth)

abbrev pub decreases-expression-summands : goal.decreases-expression-summands
decreases-expression-summands l = length (drop l.at l.tokens)

-- what was read is the product so far, and more of it may follow
abbrev pub invariant-term-factors : goal.invariant-term-factors
invariant-term-factors l = Building kind (Language.factor l.depth) (seq times_over (operand_of l.depth (level l.depth).factor (k_dot ∷ []))) (lower l.depth) combined l.tokens l.from l.product l.at × (l.product.height ≤ l.depth)

abbrev pub decreases-term-factors : goal.decreases-term-factors
decreases-term-factors l = length (drop l.at l.tokens)

-- what was read are the elements so far and one more, and a separator may follow
abbrev pub invariant-items-separators : goal.invariant-items-separators
invariant-items-separators l = Reached kind (Language.items l.depth) (alternating (separated_by commas) (annotated (Language.expr l.depth))) (λ rest. gathered with_item l.items (element l.item l.lines ∷ rest)) l.tokens l.from l.at × (l.items.height ≤ l.depth) × (l.item.height ≤ l.depth)

abbrev pub decreases-items-separators : goal.decreases-items-separators
decreases-items-separators l = length (drop l.at l.tokens)

-- what was read are the elements so far and one more, and a separator may follow
abbrev pub invariant-some_members-separators : goal.invariant-some_members-separators
invariant-some_members-separators l = Reached kind (Language.some_members l.depth) (alternating (separated_by commas) (annotated (Language.setting l.depth))) (λ rest. gathered with_member l.members (element l.current l.lines ∷ rest)) l.tokens l.from l.at × (l.members.height ≤ l.depth) × (l.current.value.height ≤ l.depth)

abbrev pub decreases-some_members-separators : goal.decreases-some_members-separators
decreases-some_members-separators l = length (drop l.at l.tokens)
