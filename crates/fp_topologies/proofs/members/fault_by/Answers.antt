use Rattle.std.proofs.Common.{◌∙◌, ap, map}
use Rattle.fp_written_parts.specs.declared.topology.MemberInstance.{MemberInstance}
use Rattle.fp_topologies.proofs.JoiningSteps.{members_along}
use Rattle.fp_topologies.proofs.members.fault_by.Goals as goal

pub returns : goal.returns
returns c =
    members_along c.member_faults.result c.as_slice-2.result.now _ c.as_slice-3.result.now _ c.as_slice-4.result.now _
    (c.as_slice-2.ensures ∙ c.in_ok-own.ensures ∙ ap (map (λ (m : MemberInstance). m.used)) c.as_slice.ensures) (c.as_slice-3.ensures ∙ c.in_ok-held.ensures) (c.as_slice-4.ensures ∙ c.in_ok-used.ensures)
    c.member_faults.ensures
