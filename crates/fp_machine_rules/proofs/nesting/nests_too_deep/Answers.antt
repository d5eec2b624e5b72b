use Rattle.std.proofs.Common.{arith}
use Rattle.fp_base.proofs.Bools.{told_false}
use Rattle.fp_machine_rules.proofs.Depths.{nests_none, nests_more}
use Rattle.fp_machine_rules.proofs.nesting.nests_too_deep.Goals as goal

pub loop-at-preserved : goal.loop-at-preserved
loop-at-preserved c =
    nests_more c.args.items.now c.loop-at.at c.loop-at.invariant (told_false _ _ c.is_deep_vertex.ensures c.if-is_deep_vertex.false)

pub returns : goal.returns
returns c = nests_none c.args.items.now (λ k l. c.loop-at.invariant k (omega (arith, l, c.loop-at-test.false)))
