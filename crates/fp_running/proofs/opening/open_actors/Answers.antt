use Rattle.std.proofs.Common.{◌≡◌, arith}
use Rattle.fp_running.proofs.Opened.{one_actor, all_actors}
use Rattle.fp_running.proofs.opening.open_actors.Goals as goal

pub loop-number-preserved : goal.loop-number-preserved
loop-number-preserved c =
    one_actor c.args.tables.now c.args.program.now c.loop-number.actors.items c.push.new.self.items c.in_ok-open.field-0 c.loop-number.number
    c.loop-number.invariant c.in_ok-open.ensures c.in_ok-push.ensures.items

pub returns : goal.returns
returns c =
    all_actors c.args.tables.now c.args.program.now c.loop-number.actors.items c.loop-number.number c.loop-number.invariant
    (omega (arith, c.loop-number.auto.number-end, c.loop-number-test.false, c.actor_count-number-end.ensures))
