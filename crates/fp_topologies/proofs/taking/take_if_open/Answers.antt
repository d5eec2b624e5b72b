use Rattle.fp_topologies.specs.Taken.{is_open}
use Rattle.fp_topologies.proofs.Hiding.{none_kept, one_kept}
use Rattle.fp_topologies.proofs.taking.take_if_open.Goals as goal

pub returns-in_ok-push : goal.returns-in_ok-push
returns-in_ok-push c = one_kept (is_open c.args.hidden.now) c.args.link c.args.taken.now _ c.is_open-stays.result c.is_open-stays.ensures c.if-stays.true c.in_ok-push.ensures.ok

pub returns-else-stays : goal.returns-else-stays
returns-else-stays c = none_kept (is_open c.args.hidden.now) c.args.link c.args.taken.now c.is_open-stays.result c.is_open-stays.ensures c.if-stays.false
