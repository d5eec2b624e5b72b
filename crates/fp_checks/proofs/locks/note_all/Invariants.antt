use Rattle.fp_gate.specs.Locks.{IsIdle, IsSamePass}
use Rattle.fp_checks.proofs.locks.note_all.Given as goal

abbrev pub invariant-loop-item : goal.invariant-loop-item
invariant-loop-item g l = IsSamePass l.fn.pass l.pass × IsIdle l.pass
