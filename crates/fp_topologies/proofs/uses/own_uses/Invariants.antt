use Rattle.std.proofs.Common.{◌≡◌, take, map}
use Rattle.fp_written_parts.specs.declared.topology.MemberInstance.{MemberInstance}
use Rattle.fp_topologies.proofs.uses.own_uses.Given as goal

abbrev pub invariant-loop-member : goal.invariant-loop-member
invariant-loop-member l = l.own ≡ map (λ (m : MemberInstance). m.used) (take l.member-index l.members)
