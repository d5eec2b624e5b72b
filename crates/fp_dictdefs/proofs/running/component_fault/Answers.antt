use Rattle.std.proofs.Common.{List, subst}
use Rattle.fp_base.specs.Least.{IsLeast}
use Rattle.fp_base.proofs.Options.{if_ok_then}
use Rattle.fp_written_parts.specs.declared.member.WrittenMember.{WrittenMember}
use Rattle.fp_dictdefs.specs.Running.{InstancesBroken}
use Rattle.fp_dictdefs.proofs.running.component_fault.Goals as goal

pub returns : goal.returns
returns c =
    if_ok_then c.instances_fault.result _ _ (λ o l. subst (λ (ms : List WrittenMember). IsLeast (InstancesBroken c.args.externals.now ms) o) c.as_slice.ensures l) c.instances_fault.ensures
