use Rattle.fp_topologies.proofs.NotingSteps.{taken_more, taken_passed}
use Rattle.fp_topologies.proofs.ends.take_if_new.Goals as goal

pub returns-in_ok-push : goal.returns-in_ok-push
returns-in_ok-push c there all n here so =
    taken_more there all n c.args.noted.now c.note.new.noted c.args.taken.now c.args.link here c.in_ok-new.new c.in_ok-new.ensures.fresh c.in_ok-new.ensures.notes so c.if-new.true _ c.in_ok-push.ensures.ok

pub returns-else-new : goal.returns-else-new
returns-else-new c there all n here so =
    taken_passed there all n c.args.noted.now c.note.new.noted c.args.taken.now c.args.link here c.in_ok-new.new c.in_ok-new.ensures.fresh c.in_ok-new.ensures.notes so c.if-new.false
