use Rattle.std.proofs.Common.{◌≡◌, List, [], ◌∷◌, ◌++◌, map, length}
use Rattle.fp_gate.specs.Steps.{own}
use Rattle.fp_gate.proofs.lock.TicketLock.close.Given as goal

abbrev pub invariant-loop-seat : goal.invariant-loop-seat
invariant-loop-seat g l =
    (p : _) × (after : List _) × (l.fn.passes ≡ l.passes ++ p ∷ after) × (l.all.table_id ≡ l.fn.self.board.shared.table_id)
    × (l.all.me ≡ (record p.seat.me.0 { others = map (λ q. own q.seat.me.0) after }, []))

abbrev pub decreases-loop-seat : goal.decreases-loop-seat
decreases-loop-seat g l = length l.passes
