use Rattle.std.proofs.Common.{◌≡◌, ℕ, List, slice_get, Some, sym, ap, subst, ◌∙◌}
use Rattle.fp_base.proofs.Calculus.{least_along, least_either, none_broken}
use Rattle.fp_meaning.specs.declared.item.Item.{Item}
use Rattle.fp_model.proofs.settling.machines_of.Goals as goal

pub machine_faults-requires : goal.machine_faults-requires
machine_faults-requires c k i at = c.requires.ordered k i (ap (λ (is : List Item). slice_get is k) (sym c.requires.laid) ∙ at)

pub returns-in-Some-clause-stop : goal.returns-in-Some-clause-stop
returns-in-Some-clause-stop c =
    least_along c.in-Some.is
    (least_along (sym c.lesser-first.ensures)
    (least_either c.in_ok-of_machines.of_machines c.args.running (c.in_ok-of_machines.ensures c.args.source.now c.requires.laid c.requires.resolved c.requires.given) c.requires.running))

pub returns-in_ok-machines-in-None-clause-unbroken : goal.returns-in_ok-machines-in-None-clause-unbroken
returns-in_ok-machines-in-None-clause-unbroken c =
    none_broken
    (least_along c.in-None.is
    (least_along (sym c.lesser-first.ensures)
    (least_either c.in_ok-of_machines.of_machines c.args.running (c.in_ok-of_machines.ensures c.args.source.now c.requires.laid c.requires.resolved c.requires.given) c.requires.running)))

pub returns-in_ok-machines-in-None-clause-machines : goal.returns-in_ok-machines-in-None-clause-machines
returns-in_ok-machines-in-None-clause-machines c = c.in_ok-machines-in-None.ensures.made c.args.source.now c.requires.laid c.requires.resolved
