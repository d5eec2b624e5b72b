use Rattle.fp_events.specs.Waits.{waits}
use Rattle.fp_cell.proofs.Asked.{has_machine}
use Rattle.fp_cell.proofs.asking.tell.Goals as goal

pub tell_arrival-requires-clause-ready : goal.tell_arrival-requires-clause-ready
tell_arrival-requires-clause-ready c = c.requires.ready

pub tell_arrival-requires-clause-askable : goal.tell_arrival-requires-clause-askable
tell_arrival-requires-clause-askable c = rw c.in-Arrive.is at c.requires.askable

pub tell_emit-requires-clause-ready : goal.tell_emit-requires-clause-ready
tell_emit-requires-clause-ready c = c.requires.ready

pub tell_emit-requires-clause-askable : goal.tell_emit-requires-clause-askable
tell_emit-requires-clause-askable c = rw c.in-Emit.is at c.requires.askable

pub tell_write-requires-clause-ready : goal.tell_write-requires-clause-ready
tell_write-requires-clause-ready c = c.requires.ready

pub tell_write-requires-clause-askable : goal.tell_write-requires-clause-askable
tell_write-requires-clause-askable c = rw c.in-Write.is at c.requires.askable

pub tell_read-requires-clause-ready : goal.tell_read-requires-clause-ready
tell_read-requires-clause-ready c = c.requires.ready

pub tell_read-requires-clause-askable : goal.tell_read-requires-clause-askable
tell_read-requires-clause-askable c = rw c.in-Read.is at c.requires.askable

pub tell_advance-requires-clause-ready : goal.tell_advance-requires-clause-ready
tell_advance-requires-clause-ready c = c.requires.ready

pub tell_arrival-requires-clause-free : goal.tell_arrival-requires-clause-free
tell_arrival-requires-clause-free c = rw c.in-Arrive.is at c.requires.free

pub tell_take-requires : goal.tell_take-requires
unfolding waits
tell_take-requires c = rw c.in-Take.is at c.requires.free

pub tell_dispatch-requires : goal.tell_dispatch-requires
unfolding waits
tell_dispatch-requires c = rw c.in-Dispatch.is at c.requires.free

pub tell_advance-requires-clause-there : goal.tell_advance-requires-clause-there
tell_advance-requires-clause-there c =
    has_machine c.args.setting.now.tables.now c.args.setting.now.program.now c.args.setting.now.instance c.in-Advance.running c.in-Advance.signal _ (rw c.in-Advance.is at c.requires.askable)

pub returns-in-Arrive-clause-ok : goal.returns-in-Arrive-clause-ok
returns-in-Arrive-clause-ok c = rw c.in-Arrive.is (c.tell_arrival.ensures.ok)

pub returns-in-Leave-clause-ok : goal.returns-in-Leave-clause-ok
returns-in-Leave-clause-ok c = rw c.in-Leave.is (c.leave.ensures.ok c.args.setting.now.tables.now c.args.setting.now.program.now c.args.setting.now.instance)

pub returns-in-Done-clause-ok : goal.returns-in-Done-clause-ok
returns-in-Done-clause-ok c = rw c.in-Done.is (c.finish.ensures.ok c.args.setting.now.tables.now c.args.setting.now.program.now c.args.setting.now.instance)

pub returns-in-Take-clause-ok : goal.returns-in-Take-clause-ok
returns-in-Take-clause-ok c = rw c.in-Take.is (c.tell_take.ensures.take c.args.setting.now.tables.now c.args.setting.now.program.now c.args.setting.now.instance)

pub returns-in-Dispatch-clause-ok : goal.returns-in-Dispatch-clause-ok
returns-in-Dispatch-clause-ok c = rw c.in-Dispatch.is (c.tell_dispatch.ensures.ok c.args.setting.now.tables.now c.args.setting.now.program.now c.args.setting.now.instance)

pub returns-in-Emit-clause-ok : goal.returns-in-Emit-clause-ok
returns-in-Emit-clause-ok c = rw c.in-Emit.is (c.tell_emit.ensures.ok c.args.actor)

pub returns-in-Write-clause-ok : goal.returns-in-Write-clause-ok
returns-in-Write-clause-ok c = rw c.in-Write.is (c.tell_write.ensures.ok c.args.actor)

pub returns-in-Read-clause-ok : goal.returns-in-Read-clause-ok
returns-in-Read-clause-ok c = rw c.in-Read.is (c.tell_read.ensures c.args.actor)

pub returns-in-Advance-clause-ok : goal.returns-in-Advance-clause-ok
returns-in-Advance-clause-ok c = rw c.in-Advance.is (c.tell_advance.ensures.ok c.args.actor _)

pub returns-in-Arrive-clause-queue : goal.returns-in-Arrive-clause-queue
returns-in-Arrive-clause-queue c = c.tell_arrival.ensures.queue

pub returns-in-Arrive-clause-err : goal.returns-in-Arrive-clause-err
returns-in-Arrive-clause-err c = c.tell_arrival.ensures.err

pub returns-in-Leave-clause-queue : goal.returns-in-Leave-clause-queue
returns-in-Leave-clause-queue c = c.leave.ensures.queue

pub returns-in-Leave-clause-err : goal.returns-in-Leave-clause-err
returns-in-Leave-clause-err c = c.leave.ensures.err

pub returns-in-Done-clause-queue : goal.returns-in-Done-clause-queue
returns-in-Done-clause-queue c = c.finish.ensures.queue

pub returns-in-Done-clause-err : goal.returns-in-Done-clause-err
returns-in-Done-clause-err c = c.finish.ensures.err

pub returns-in-Take-clause-queue : goal.returns-in-Take-clause-queue
returns-in-Take-clause-queue c = c.tell_take.ensures.queue

pub returns-in-Dispatch-clause-queue : goal.returns-in-Dispatch-clause-queue
returns-in-Dispatch-clause-queue c = c.tell_dispatch.ensures.queue

pub returns-in-Dispatch-clause-err : goal.returns-in-Dispatch-clause-err
returns-in-Dispatch-clause-err c = c.tell_dispatch.ensures.err

pub returns-in-Emit-clause-queue : goal.returns-in-Emit-clause-queue
returns-in-Emit-clause-queue c = c.tell_emit.ensures.queue

pub returns-in-Emit-clause-err : goal.returns-in-Emit-clause-err
returns-in-Emit-clause-err c = c.tell_emit.ensures.err

pub returns-in-Write-clause-queue : goal.returns-in-Write-clause-queue
returns-in-Write-clause-queue c = c.tell_write.ensures.queue

pub returns-in-Write-clause-err : goal.returns-in-Write-clause-err
returns-in-Write-clause-err c = c.tell_write.ensures.err

pub returns-in-Advance-clause-queue : goal.returns-in-Advance-clause-queue
returns-in-Advance-clause-queue c = c.tell_advance.ensures.queue

pub returns-in-Advance-clause-err : goal.returns-in-Advance-clause-err
returns-in-Advance-clause-err c = c.tell_advance.ensures.err
