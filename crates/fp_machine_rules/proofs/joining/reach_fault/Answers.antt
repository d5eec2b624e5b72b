use Rattle.std.proofs.Common.{List, Bool, length, subst, sym}
use Rattle.fp_base.specs.declared.rule.Rule.TheVariants.{Unreachable}
use Rattle.fp_machine_rules.specs.declared.item.Item.{Item}
use Rattle.fp_machine_rules.specs.Leaving.{AreFlags}
use Rattle.fp_machine_rules.specs.Reached.{IsUnreached}
use Rattle.fp_machine_rules.proofs.Joined.{flags_placed}
use Rattle.fp_machine_rules.proofs.joining.reach_fault.Goals as goal

pub returns : goal.returns
returns c =
    let items = c.args.items.now in
    flags_placed Unreachable (λ (x : Item). x.place) items (IsUnreached items) c.args.places.now _ c.least_flagged.result c.requires.places
    (subst (λ (fs : List Bool). AreFlags (IsUnreached items) (length items) fs) (sym c.deref.ensures.value) c.in_ok-flags.ensures) c.least_flagged.ensures
