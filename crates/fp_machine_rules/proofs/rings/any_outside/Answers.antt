use Rattle.std.proofs.Common.{arith}
use Rattle.std.proofs.lemmas.Option.{slice_get-get_or}
use Rattle.fp_base.proofs.Bools.{told_false}
use Rattle.fp_machine_rules.proofs.Choices.{outside_more, outside_none}
use Rattle.fp_machine_rules.proofs.rings.any_outside.Goals as goal

pub loop-vertex-preserved : goal.loop-vertex-preserved
loop-vertex-preserved c =
    outside_more c.args.items.now c.args.parent c.args.found.now c.loop-vertex.vertex-index _ c.loop-vertex.invariant
    (slice_get-get_or c.args.found.now c.loop-vertex.vertex-index 0 c.loop-vertex-test.true) (told_false _ _ c.is_outside.ensures c.if-is_outside.false)

pub returns : goal.returns
returns c =
    outside_none c.args.items.now c.args.parent c.args.found.now (λ k v l. c.loop-vertex.invariant k v (omega (arith, l, c.loop-vertex-test.false)))
