use Rattle.std.proofs.Common.{◌∙◌, ap, Option, Some}
use Rattle.fp_base.proofs.Options.{if_ok_then}
use Rattle.fp_base.specs.declared.refusal.Refusal.{Refusal}
use Rattle.fp_topologies.proofs.JoiningSteps.{members_with, members_without}
use Rattle.fp_topologies.proofs.members.members_fault.Goals as goal

pub returns-in-Some : goal.returns-in-Some
returns-in-Some c =
    if_ok_then c.fault_by.result _ _
    (λ (f : Option Refusal) l. members_with c.args.written.now c.args.topology.now c.as_slice.result.now _ f (ap Some c.as_slice.ensures ∙ c.in-Some.ensures) l) c.fault_by.ensures

pub returns-in-None : goal.returns-in-None
returns-in-None c =
    if_ok_then c.repeated_fault.result _ _ (λ (f : Option Refusal) l. members_without c.args.written.now c.args.topology.now _ f c.in-None.ensures l) c.repeated_fault.ensures
