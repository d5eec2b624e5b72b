use Rattle.std.proofs.Common.{◌≡◌, ◌<◌, ℕ}
use Rattle.fp_running.proofs.Steps.{Cannot}
use Rattle.fp_running.proofs.running.Running.try_all.Given as goal

abbrev pub invariant-loop-actor : goal.invariant-loop-actor
invariant-loop-actor l = record { same : l.self ≡ l.fn.self; none : (a : ℕ) → a < l.actor → Cannot l.fn.self a }
