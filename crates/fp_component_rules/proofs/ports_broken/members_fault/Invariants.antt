use Rattle.std.proofs.Common.{ℕ}
use Rattle.fp_base.specs.Least.{InFirst, IsLeast}
use Rattle.fp_component_rules.specs.PortBroken.{BrokenMember}
use Rattle.fp_component_rules.proofs.ports_broken.members_fault.Given as goal

abbrev pub invariant-loop-member : goal.invariant-loop-member
invariant-loop-member l = IsLeast (InFirst l.member-index (λ (k : ℕ). BrokenMember l.definitions) l.members) l.first
