use Rattle.std.proofs.Common.{List, length, subst, sym}
use Rattle.fp_base.specs.Least.{IsLeast}
use Rattle.fp_base.proofs.Options.{if_ok_then}
use Rattle.fp_machine_rules.specs.declared.item.Item.{Item}
use Rattle.fp_machine_rules.specs.Broken.{BrokenItems}
use Rattle.fp_machine_rules.specs.Forms.{IsLaid}
use Rattle.fp_machine_rules.specs.Gathered.{AreGathered}
use Rattle.fp_machine_rules.proofs.faults.fault_of_items.Goals as goal

pub item_fault-requires-clause-laid : goal.item_fault-requires-clause-laid
item_fault-requires-clause-laid c = subst (λ (items : List Item). IsLaid items) (sym c.as_slice.ensures) c.requires.laid

pub item_fault-requires-clause-gathered : goal.item_fault-requires-clause-gathered
item_fault-requires-clause-gathered c =
    subst (λ (items : List Item). AreGathered items (length items) c.args.gathered.now.table.items c.args.gathered.now.top) (sym c.as_slice.ensures) c.requires.gathered

pub returns : goal.returns
returns c =
    if_ok_then c.item_fault.result _ _ (λ o l. subst (λ (items : List Item). IsLeast (BrokenItems items) o) c.as_slice.ensures l) c.item_fault.ensures
