use Rattle.fp_events.proofs.GuardLaws.{run_lets_in}
use Rattle.fp_events.proofs.orders.guard_order.Goals as goal

pub returns : goal.returns
returns c = λ tables program es h before rest e is. run_lets_in tables program es h.0 h.1 before rest e is
