use Rattle.std.proofs.Common.{ℕ, List, ◌++◌, refl, sym, subst}
use Rattle.fp_meaning.specs.declared.group.Group.TheVariants as group
use Rattle.fp_meaning.specs.Layout.{use_items, value_items}
use Rattle.fp_meaning.specs.Names.{definitions}
use Rattle.fp_type_forms.proofs.Taking.{taken_as, taken_then}
use Rattle.fp_component_forms.specs.Positions.{RanksAre}
use Rattle.fp_component_forms.proofs.single.running_taken.Goals as goal

pub returns : goal.returns
returns c source scope ready =
    taken_as source c.args.marks.now c.args.resolutions.now (use_items group.Machine scope c.args.running.now.of ++ value_items scope c.args.running.now.priority) c.args.next.now _
    (λ t. record { name = c.in_ok-name.ensures; at = refl; begins = refl; machine = t.0; queue = t.1 })
    (taken_then source c.args.marks.now c.args.resolutions.now (use_items group.Machine scope c.args.running.now.of) (value_items scope c.args.running.now.priority) c.args.next.now _ _ (c.position_taken-machine.ensures source c.args.marks.now group.Machine scope c.args.running.now.of refl (subst (λ (ns : List ℕ). RanksAre group.Machine (definitions source) ns) (sym c.as_slice.ensures) ready.machines))
    (c.queue_taken-queue.ensures source scope))
