use Rattle.std.proofs.Common.{◌≤◌, length, ap, ◌∙◌, arith}
use Rattle.std.specs.BinaryHeap.{heap_capacity}
use Rattle.fp_queue.proofs.RankLemmas.{ranking_at}
use Rattle.fp_queue.proofs.ReadyLemmas.{new_ready}
use Rattle.fp_queue.proofs.queue.Queue.new.Goals as goal

pub invariant_of-result : goal.invariant_of-result
invariant_of-result g c =
    let ranking = ranking_at _ _ _ _ _ c.of-known.ensures c.in_ok-given.ensures c.into_vec-ranks.ensures c.requires.differ c.in_ok-sort.ensures.permutation c.in_ok-sort.ensures.sorted in
    let long = c.sort.new.self.ok.0 in
    let room : length c.sort.new.self.items ≤ heap_capacity c.in_ok-noted.noted = omega (arith, c.in_ok-noted.ensures.capacity, c.len-2.ensures) in
    new_ready _ _ _ _ _ _ ranking (c.in_ok-lanes.ensures.count ∙ c.len.ensures ∙ long) c.in_ok-lanes.ensures.each c.in_ok-noted.ensures.items c.in_ok-noted.ensures.heap_order room
    (ap (λ l. l.pending) c.of.ensures ∙ c.new.ensures)
