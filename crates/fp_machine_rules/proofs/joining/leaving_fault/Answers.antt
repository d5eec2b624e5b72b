use Rattle.std.proofs.Common.{List, Bool, length, subst, sym}
use Rattle.fp_base.specs.declared.rule.Rule.TheVariants.{InitialLeavesState}
use Rattle.fp_machine_rules.specs.declared.item.Item.{Item}
use Rattle.fp_machine_rules.specs.Leaving.{AreFlags}
use Rattle.fp_machine_rules.specs.Through.{LeavesItsState}
use Rattle.fp_machine_rules.proofs.Joined.{flags_placed}
use Rattle.fp_machine_rules.proofs.joining.leaving_fault.Goals as goal

pub returns : goal.returns
returns c =
    let items = c.args.items.now in
    flags_placed InitialLeavesState (λ (x : Item). x.place) items (LeavesItsState items) c.args.places.now _ c.least_flagged.result c.requires.places
    (subst (λ (fs : List Bool). AreFlags (LeavesItsState items) (length items) fs) (sym c.deref.ensures.value) c.in_ok-flags.ensures) c.least_flagged.ensures
