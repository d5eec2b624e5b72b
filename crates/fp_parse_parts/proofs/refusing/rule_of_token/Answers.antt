use Rattle.std.proofs.Common.{arith}
use Rattle.fp_parse_parts.proofs.Following.{rule_deeper, rule_left_out, rule_plain, when_true, when_false}
use Rattle.fp_parse_parts.proofs.refusing.rule_of_token.Goals as goal

pub returns-then-at-deeper : goal.returns-then-at-deeper
returns-then-at-deeper g c = rule_deeper g.F.FileKind.grammar g.F.FileKind.probe _ _ _ _ c.requires.there c.in_ok-deeper.ensures c.if-at-deeper.true

pub returns-then-begins : goal.returns-then-begins
returns-then-begins g c = rule_left_out g.F.FileKind.grammar g.F.FileKind.probe _ _ _ _ c.requires.there c.in_ok-deeper.ensures (omega (arith, c.if-at-deeper.false)) (when_true _ _ _ c.in_ok-begins.ensures c.if-begins.true)

pub returns-else-begins : goal.returns-else-begins
returns-else-begins g c = rule_plain g.F.FileKind.grammar g.F.FileKind.probe _ _ _ _ c.requires.there c.in_ok-deeper.ensures (omega (arith, c.if-at-deeper.false)) (when_false _ _ _ c.in_ok-begins.ensures c.if-begins.false)
