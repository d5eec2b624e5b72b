use Rattle.fp_events.proofs.QueueLaws.{queue_in_order}
use Rattle.fp_events.proofs.orders.queue_order.Goals as goal

pub returns : goal.returns
returns c = λ tables program es h before rest e is. queue_in_order tables program es h.0 h.1 before e rest is
