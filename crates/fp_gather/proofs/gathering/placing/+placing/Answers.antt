use Rattle.std.specs.Vec.Iter.{into_iter_items}
use Rattle.fp_gather.specs.gathering.Includes.{placed}
use Rattle.fp_gather.proofs.PartsPlaced.{placed_more}
use Rattle.fp_gather.proofs.gathering.placing.+placing.Goals as goal

pub in_members-loop-member-preserved : goal.in_members-loop-member-preserved
in_members-loop-member-preserved t c =
    placed_more placed _ c.loop-member.out _ (into_iter_items c.loop-member.member-iterator) c.in-Some.member (into_iter_items c.next.new.self) (into_iter_items c.loop-member.inserts) _
    c.loop-member.invariant c.in-Some.ensures.steps.0 c.in_ok-in_member.ensures.0 c.in_ok-in_member.ensures.1
