use Rattle.std.proofs.Common.{List, length, subst, sym}
use Rattle.fp_machine_rules.specs.declared.item.Item.{Item}
use Rattle.fp_machine_rules.specs.Forms.{IsLaid}
use Rattle.fp_machine_rules.specs.Gathered.{AreGathered}
use Rattle.fp_machine_rules.proofs.faults.faults_inside.Goals as goal

pub gather-requires : goal.gather-requires
gather-requires c = subst (λ (items : List Item). IsLaid items) (sym c.as_slice.ensures) c.requires.laid

pub fault_inside-requires-clause-gathered : goal.fault_inside-requires-clause-gathered
fault_inside-requires-clause-gathered c =
    subst (λ (items : List Item). AreGathered items (length items) c.in_ok-gathered.gathered.table.items c.in_ok-gathered.gathered.top) c.as_slice.ensures c.in_ok-gathered.ensures
