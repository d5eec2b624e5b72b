use Rattle.std.proofs.Common.{take}
use Rattle.fp_components.specs.Resolved.{AreEach, IsLimit}
use Rattle.fp_components.specs.Whole.{AreWholeLimits}
use Rattle.fp_components.proofs.channels.limits_of.Given as goal

abbrev pub invariant-loop-limit : goal.invariant-loop-limit
invariant-loop-limit l = AreWholeLimits l.limits → AreEach (λ k. IsLimit) (take l.limit-index l.limits) l.row
