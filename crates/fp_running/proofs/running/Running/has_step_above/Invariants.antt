use Rattle.std.proofs.Common.{◌≡◌, ◌<◌, ℕ}
use Rattle.fp_running.proofs.Steps.{HasNone}
use Rattle.fp_running.proofs.running.Running.has_step_above.Given as goal

abbrev pub invariant-loop-actor : goal.invariant-loop-actor
invariant-loop-actor l = record { same : l.self ≡ l.fn.self; none : (a : ℕ) → a < l.actor → HasNone l.fn.self a }
