use Rattle.std.proofs.Common.{ℕ}
use Rattle.fp_base.specs.Least.{InFirst, IsLeast}
use Rattle.fp_instances.specs.InstanceBroken.{BrokenInstance}
use Rattle.fp_instances.proofs.instances_broken.instance_faults.Given as goal

abbrev pub invariant-loop-instance : goal.invariant-loop-instance
invariant-loop-instance l = IsLeast (InFirst l.instance-index (λ (k : ℕ). BrokenInstance) l.instances) l.first
