use Rattle.fp_queue.proofs.ReadyLemmas.{lanes_more}
use Rattle.fp_queue.proofs.queue.empty_lanes.Goals as goal

pub loop-preserved : goal.loop-preserved
loop-preserved g c =
    let more = lanes_more c.args.size c.loop.counter _ _ c.in_ok-lane.lane c.in_ok-push.ensures.items c.loop.invariant.count c.loop.invariant.each c.in_ok-lane.ensures.items c.in_ok-lane.ensures.capacity in
    record { count = more.0; each = more.1 }
