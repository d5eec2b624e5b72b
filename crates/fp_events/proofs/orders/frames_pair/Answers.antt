use Rattle.fp_events.proofs.FramesPair.{told_pairs, run_pairs}
use Rattle.fp_events.proofs.orders.frames_pair.Goals as goal

pub returns-clause-told : goal.returns-clause-told
returns-clause-told c = λ tables program a es told before rest e is. told_pairs tables program a es told before rest e is

pub returns-clause-run : goal.returns-clause-run
returns-clause-run c = λ tables program es h before rest e is. run_pairs tables program es h.0 h.1 before e rest is
