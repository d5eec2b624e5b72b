use Rattle.fp_actor.proofs.Looking.{carry}
use Rattle.fp_actor.proofs.Dueness.{asks_handler}
use Rattle.fp_actor.proofs.view.View.act_asks.Goals as goal

pub returns-in-Inside : goal.returns-in-Inside
returns-in-Inside c = rw c.in-Inside.is (c.caller_asks.ensures c.args.self.now.tables.now c.args.self.now.program.now)

pub returns-in-Own : goal.returns-in-Own
returns-in-Own c = rw c.in-Own.is (c.caller_asks-in-Own.ensures c.args.self.now.tables.now c.args.self.now.program.now)

pub returns-in_default : goal.returns-in_default
returns-in_default c =
    let v = c.args.self.now in
    let b = c.args.bottom in
    carry c.handler_asks.result _ _
    (asks_handler v.tables.now v.program.now v.number v.trace.now b.base b.next.source _ _ c.args.act.now c.args.with c.instance-instance.ensures c.in_default.not-Inside
    c.in_default.not-Own)
    (c.handler_asks.ensures v.number v.trace.now b.next.source)
