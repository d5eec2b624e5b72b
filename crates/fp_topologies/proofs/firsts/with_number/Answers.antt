use Rattle.std.proofs.Common.{refl}
use Rattle.fp_topologies.proofs.ImportNoting.{passed, pushed}
use Rattle.fp_topologies.proofs.firsts.with_number.Goals as goal

pub returns-in_ok-push : goal.returns-in_ok-push
returns-in_ok-push c all before = pushed all c.args.number c.args.firsts before c.in_ok-new.new c.in_ok-new.ensures.fresh _ c.in_ok-new.ensures.notes c.if-new.true c.in_ok-push.ensures.ok

pub returns-else-new : goal.returns-else-new
returns-else-new c all before = passed all c.args.number c.args.firsts before c.in_ok-new.new c.in_ok-new.ensures.fresh _ c.in_ok-new.ensures.notes c.if-new.false refl
