use Rattle.std.proofs.Common.{[], ◌∙◌, ap, map, refl}
use Rattle.fp_written_parts.specs.declared.topology.MemberInstance.{MemberInstance}
use Rattle.fp_topologies.proofs.JoiningSteps.{members_along}
use Rattle.fp_topologies.proofs.members.repeated_fault.Goals as goal

pub returns : goal.returns
returns c =
    members_along c.member_faults.result c.as_slice-2.result.now _ [] [] [] []
    (c.as_slice-2.ensures ∙ c.in_ok-own.ensures ∙ ap (map (λ (m : MemberInstance). m.used)) c.as_slice.ensures) refl refl c.member_faults.ensures
