use Rattle.std.proofs.Common.{sym, ap}
use Rattle.fp_events.specs.Run.{at, by}
use Rattle.fp_running.proofs.concluding.in_order.Goals as goal

pub returns-else-more-clause-histories : goal.returns-else-more-clause-histories
returns-else-more-clause-histories c = λ i. ap (at i) (sym (c.requires.all c.if-more.false))

pub returns-else-more-clause-traces : goal.returns-else-more-clause-traces
returns-else-more-clause-traces c = λ a. ap (by a) (sym (c.requires.all c.if-more.false))
