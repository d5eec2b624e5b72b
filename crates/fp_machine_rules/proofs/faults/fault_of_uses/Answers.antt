use Rattle.std.proofs.Common.{List, Option, ℕ, subst}
use Rattle.fp_base.specs.Least.{IsLeast}
use Rattle.fp_base.proofs.Options.{if_ok_then}
use Rattle.fp_machine_rules.specs.declared.item.Item.{Item}
use Rattle.fp_machine_rules.specs.declared.item.Use.{Use}
use Rattle.fp_machine_rules.specs.Broken.{BrokenUses}
use Rattle.fp_machine_rules.proofs.faults.fault_of_uses.Goals as goal

pub returns : goal.returns
returns c =
    let m = c.args.machine.now in
    if_ok_then c.use_fault.result _ _
    (λ o l.
    subst (λ (items : List Item). IsLeast (BrokenUses items m.types m.uses) o) c.as_slice.ensures
    (subst (λ (ts : List (Option ℕ)). IsLeast (BrokenUses c.as_slice.result.now ts m.uses) o) c.as_slice-2.ensures
    (subst (λ (us : List Use). IsLeast (BrokenUses c.as_slice.result.now c.as_slice-2.result.now us) o) c.as_slice-3.ensures l)))
    c.use_fault.ensures
