use Rattle.std.proofs.Common.{ℕ}
use Rattle.fp_base.specs.Least.{InFirst, IsLeast}
use Rattle.fp_topologies.specs.ConnectionBroken.{BrokenConnection}
use Rattle.fp_topologies.proofs.connections_broken.connection_faults.Given as goal

abbrev pub invariant-loop-connection : goal.invariant-loop-connection
invariant-loop-connection l = IsLeast (InFirst l.connection-index (λ (k : ℕ). BrokenConnection) l.connections) l.first
