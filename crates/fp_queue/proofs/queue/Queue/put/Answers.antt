use Rattle.std.proofs.Common.{ap, sym, ◌∙◌, arith, w32, to_z, of_z}
use Rattle.std.proofs.lemmas.Bool.{eqb-true, eqb-false}
use Rattle.std.proofs.lemmas.Int.{to_z-of_z}
use Rattle.fp_queue.specs.Contents.{pending_at}
use Rattle.fp_queue.proofs.RankLemmas.{known_rank}
use Rattle.fp_queue.proofs.ReadyLemmas.{room_in_lane, room_in_heap, put_more, put_first, at_ok, not_full}
use Rattle.fp_queue.proofs.queue.Queue.put.Goals as goal

pub rank_of-at-requires-clause-known : goal.rank_of-at-requires-clause-known
rank_of-at-requires-clause-known g c =
    known_rank _ _ _ _ _ _ c.self.invariant.ranking (ap (λ q. q.priorities) c.self.view_is) c.as_slice.ensures.value (to_z-of_z w32 c.args.priority c.ranges.priority) c.requires

pub push_back_reserved-requires : goal.push_back_reserved-requires
push_back_reserved-requires g c =
    room_in_lane _ _ _ _ _ _ _ c.self.invariant _ _ (rw c.as_slice.ensures.value at c.rank_of-at.ensures.within) c.index_mut-lane.ensures.value (not_full _ _ _ _ c.self.view_is c.self.invariant.counted c.is_full.ensures c.if-is_full.false)

pub invariant_of-self : goal.invariant_of-self
invariant_of-self g c =
    let h = rw c.as_slice.ensures.value at c.rank_of-at.ensures.within in
    let rank = rw c.as_slice.ensures.value at c.rank_of-at.ensures.rank in
    let none = eqb-true _ _ (sym c.is_empty-first.ensures ∙ c.if-first.true) in
    let ok = c.push.ensures.succeeds (room_in_heap _ _ _ _ _ _ _ c.self.invariant _ _ h c.index_mut-lane.ensures.value none) in
    put_first _ _ _ _ _ _ _ c.self.invariant _ _ (pending_at (to_z w32 (of_z w32 c.args.priority)) c.args.item) _ _ _ h rank c.index_mut-lane.ensures.value (not_full _ _ _ _ c.self.view_is c.self.invariant.counted c.is_full.ensures c.if-is_full.false)
    c.push_back_reserved.ensures.items c.push_back_reserved.ensures.capacity (ap (λ l. l.pending) c.of.ensures ∙ c.and.ensures) none
    (at_ok _ _ ok c.push.ensures.permutation) (at_ok _ _ ok c.push.ensures.heap_order) c.push.ensures.capacity

pub invariant_of-self-else-first : goal.invariant_of-self-else-first
invariant_of-self-else-first g c =
    let h = rw c.as_slice.ensures.value at c.rank_of-at.ensures.within in
    let rank = rw c.as_slice.ensures.value at c.rank_of-at.ensures.rank in
    let some = eqb-false _ _ (sym c.is_empty-first.ensures ∙ c.if-first.false) in
    put_more _ _ _ _ _ _ _ c.self.invariant _ (pending_at (to_z w32 (of_z w32 c.args.priority)) c.args.item) _ _ _ h rank c.index_mut-lane.ensures.value (not_full _ _ _ _ c.self.view_is c.self.invariant.counted c.is_full.ensures c.if-is_full.false)
    c.push_back_reserved.ensures.items c.push_back_reserved.ensures.capacity (ap (λ l. l.pending) c.of.ensures ∙ c.and.ensures) (omega arith)
