use Rattle.std.proofs.lemmas.Option.{slice_get-get_or}
use Rattle.fp_gate.specs.Locks.{id_of, seats_of}
use Rattle.fp_plant.proofs.Beginning.{more_locks}
use Rattle.fp_plant.proofs.opening.add_locks.Goals as goal

pub loop-instance-preserved : goal.loop-instance-preserved
loop-instance-preserved c =
    more_locks c.args.tables.now c.args.program.now (λ k. id_of k) (λ k. seats_of k) c.args.count c.args.instances.now c.loop-instance.instance-index _ c.loop-instance.locks.items c.push.new.self.items
    c.in_ok-lock.lock c.loop-instance.rows.items c.add_lock.new.rows.items c.requires.instances c.loop-instance.invariant c.loop-instance-test.true
    (slice_get-get_or c.args.instances.now c.loop-instance.instance-index 0 c.loop-instance-test.true) c.in_ok-lock.ensures.seats c.in_ok-lock.ensures.dealt c.in_ok-push.ensures.items
