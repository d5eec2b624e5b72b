use Rattle.fp_events.proofs.Policies.{told_by_policy}
use Rattle.fp_events.proofs.orders.overflow_policies.Goals as goal

pub returns : goal.returns
returns c = λ tables program a es told before rest e is. told_by_policy tables program a es told before rest e is
