use Rattle.std.proofs.Common.{subst, sym}
use Rattle.fp_base.specs.Least.{IsLeast}
use Rattle.fp_base.proofs.Options.{if_ok_then}
use Rattle.fp_machine_rules.specs.declared.item.LaidMachine.{LaidMachine}
use Rattle.fp_machine_rules.specs.Broken.{BrokenInside}
use Rattle.fp_machine_rules.specs.Forms.{IsLaid}
use Rattle.fp_machines.proofs.Laid.{laid_stands}
use Rattle.fp_machines.proofs.checking.inside.Goals as goal

pub faults_inside-requires-clause-laid : goal.faults_inside-requires-clause-laid
faults_inside-requires-clause-laid c =
    subst (λ (m : LaidMachine). IsLaid m.items) (sym c.in_ok-machine.ensures) (laid_stands c.args.elements.now c.requires.laid)

pub returns : goal.returns
returns c =
    if_ok_then c.faults_inside.result _ _ (λ o l. subst (λ (m : LaidMachine). IsLeast (BrokenInside m) o) c.in_ok-machine.ensures l) c.faults_inside.ensures
