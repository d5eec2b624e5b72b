use Rattle.std.proofs.Common.{ℕ}
use Rattle.fp_base.specs.Least.{InFirst, IsLeast}
use Rattle.fp_dictdefs.specs.Running.{RunningBroken}
use Rattle.fp_dictdefs.proofs.running.running_faults.Given as goal

abbrev pub invariant-loop-component : goal.invariant-loop-component
invariant-loop-component l = IsLeast (InFirst l.component-index (λ (k : ℕ). RunningBroken l.externals) l.components) l.first
