use Rattle.fp_gate.specs.Locks.{IsIdle, IsSamePass}
use Rattle.fp_bench.proofs.lock.cross_lock.Given as goal

abbrev pub invariant-loop : goal.invariant-loop
invariant-loop g l = IsSamePass l.fn.pass l.pass × IsIdle l.pass
