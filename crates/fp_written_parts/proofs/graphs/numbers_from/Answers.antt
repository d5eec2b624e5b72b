use Rattle.fp_base.proofs.Numbers.{numbers_more}
use Rattle.fp_written_parts.proofs.graphs.numbers_from.Goals as goal

pub loop-at-preserved : goal.loop-at-preserved
loop-at-preserved c = numbers_more c.args.first c.loop-at.at c.in_ok-number.number c.loop-at.numbers _ c.in_ok-number.ensures c.in_ok-push.ensures.ok c.loop-at.invariant
