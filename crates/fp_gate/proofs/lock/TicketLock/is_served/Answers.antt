use Rattle.std.proofs.Common.{rules, ap, ◌∙◌}
use Rattle.fp_gate.proofs.Steps.{looks}
use Rattle.fp_gate.proofs.lock.TicketLock.is_served.Goals as goal

pub load-serving-requires : goal.load-serving-requires
load-serving-requires g c = let same = c.loop.invariant.1 in let waits = c.requires.waits in (
  search rules,
  search rules,
  looks g.T.Booked.name g.T.Booked.history _ _ _ waits.0.0 _ c.loop.pass.live (ap (λ m. m.0.ticket) same ∙ waits.0.1) (ap (λ m. m.0.in_turn) same ∙ waits.1),
)
