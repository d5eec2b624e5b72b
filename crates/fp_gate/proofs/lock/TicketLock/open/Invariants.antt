use Rattle.std.proofs.Common.{◌≡◌, ◌+◌, length, [], Some}
use Rattle.fp_gate.specs.Views.{new_view}
use Rattle.fp_gate.proofs.Passes.{AllFrom}
use Rattle.fp_gate.proofs.lock.TicketLock.open.Given as goal

abbrev pub invariant-loop-number : goal.invariant-loop-number
invariant-loop-number g l =
    (l.first.seat.table_id ≡ l.lock.board.shared.table_id) × (l.first.seat.me ≡ (new_view (Some (g.T.Booked.name l.fn.value)) 0 l.number, [])) × (length l.passes.items + 1 ≡ l.number)
    × AllFrom (λ i p. (p.seat.table_id ≡ l.lock.board.shared.table_id) × (p.seat.me ≡ (new_view (Some (g.T.Booked.name l.fn.value)) i 0, []))) 1 l.passes.items
