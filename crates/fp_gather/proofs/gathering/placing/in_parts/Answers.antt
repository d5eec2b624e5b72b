use Rattle.std.specs.Vec.Iter.{into_iter_items}
use Rattle.fp_gather.specs.gathering.Includes.{placed_part}
use Rattle.fp_gather.proofs.PartsPlaced.{placed_more}
use Rattle.fp_gather.proofs.gathering.placing.in_parts.Goals as goal

pub loop-part-preserved : goal.loop-part-preserved
loop-part-preserved c =
    placed_more placed_part _ c.loop-part.out _ (into_iter_items c.loop-part.part-iterator) c.in-Some.part (into_iter_items c.next.new.self) (into_iter_items c.loop-part.inserts) _
    c.loop-part.invariant c.in-Some.ensures.steps.0 c.in_ok-in_part.ensures.0 c.in_ok-in_part.ensures.1
