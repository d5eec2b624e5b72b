use Rattle.std.proofs.Common.{◌≡◌, ◌≤◌, [], length}
use Rattle.std.specs.List.{All}
use Rattle.std.specs.VecDeque.{deque_capacity}
use Rattle.fp_queue.proofs.queue.empty_lanes.Given as goal

abbrev pub invariant-loop : goal.invariant-loop
invariant-loop g l = record {
  count : length l.lanes.items ≡ l.counter;
  each : All (λ lane. (lane.items ≡ []) × (l.size ≤ deque_capacity lane)) l.lanes.items;
}
