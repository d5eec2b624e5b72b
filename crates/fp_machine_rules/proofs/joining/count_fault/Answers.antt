use Rattle.std.proofs.Common.{List, Bool, length, subst, sym}
use Rattle.fp_base.specs.declared.rule.Rule.TheVariants.{InitialCount}
use Rattle.fp_machine_rules.specs.declared.item.Item.{Item}
use Rattle.fp_machine_rules.specs.Leaving.{AreFlags}
use Rattle.fp_machine_rules.specs.Members.{StateCountsWrong}
use Rattle.fp_machine_rules.proofs.Joined.{flags_placed}
use Rattle.fp_machine_rules.proofs.joining.count_fault.Goals as goal

pub returns : goal.returns
returns c =
    let items = c.args.items.now in
    flags_placed InitialCount (λ (x : Item). x.place) items (StateCountsWrong items) c.args.places.now _ c.least_flagged.result c.requires.places
    (subst (λ (fs : List Bool). AreFlags (StateCountsWrong items) (length items) fs) (sym c.deref.ensures.value) c.in_ok-flags.ensures) c.least_flagged.ensures
