use Rattle.std.proofs.Common.{ℕ, Bool, List, subst, ◌∙◌}
use Rattle.fp_base.specs.Least.{InSome, IsLeast}
use Rattle.fp_base.proofs.Options.{if_ok_then}
use Rattle.fp_written_parts.specs.declared.member.WrittenComponent.{WrittenComponent}
use Rattle.fp_dictdefs.specs.Running.{RunningBroken}
use Rattle.fp_source_parts.proofs.parts.instances_fault.Goals as goal

pub returns : goal.returns
returns c =
    if_ok_then c.running_faults.result _ _
    (λ o l.
    subst (λ (es : List Bool). IsLeast (InSome (λ (k : ℕ). RunningBroken es) c.args.written.now.components) o) (c.deref.ensures.value ∙ c.in_ok-externals.ensures)
    (subst (λ (cs : List WrittenComponent). IsLeast (InSome (λ (k : ℕ). RunningBroken c.deref.result.now) cs) o) c.as_slice.ensures l))
    c.running_faults.ensures
