use Rattle.std.specs.Vec.Iter.{into_iter_items}
use Rattle.fp_gather.specs.gathering.Includes.{placed_topology_member}
use Rattle.fp_gather.proofs.PartsPlaced.{placed_more}
use Rattle.fp_gather.proofs.gathering.placing.in_topology_members.Goals as goal

pub loop-member-preserved : goal.loop-member-preserved
loop-member-preserved c =
    placed_more placed_topology_member _ c.loop-member.out _ (into_iter_items c.loop-member.member-iterator) c.in-Some.member (into_iter_items c.next.new.self) (into_iter_items c.loop-member.inserts) _
    c.loop-member.invariant c.in-Some.ensures.steps.0 c.in_ok-in_topology_member.ensures.0 c.in_ok-in_topology_member.ensures.1
