use Rattle.std.proofs.Common.{◌≡◌}
use Rattle.fp_gate.proofs.lock.TicketLock.is_served.Given as goal

abbrev pub invariant-loop : goal.invariant-loop
invariant-loop g l = (l.pass.seat.table_id ≡ l.fn.pass.seat.table_id) × (l.pass.seat.me ≡ l.fn.pass.seat.me)
