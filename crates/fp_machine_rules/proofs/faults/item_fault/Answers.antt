use Rattle.std.proofs.Common.{sym, ◌∙◌}
use Rattle.fp_base.proofs.Calculus.{least_along, least_either}
use Rattle.fp_machine_rules.proofs.faults.item_fault.Goals as goal

pub way_fault-requires-clause-places : goal.way_fault-requires-clause-places
way_fault-requires-clause-places c = c.deref.ensures.value ∙ c.in_ok-places.ensures

pub again_fault-requires : goal.again_fault-requires
again_fault-requires c = c.deref-2.ensures.value ∙ c.in_ok-places.ensures

pub declared_fault-requires : goal.declared_fault-requires
declared_fault-requires c = c.deref-3.ensures.value ∙ c.in_ok-places.ensures

pub returns : goal.returns
returns c =
    least_along (sym c.lesser.ensures)
    (least_either _ _ c.in_ok-way.ensures (least_along (sym c.lesser-later.ensures) (least_either _ _ c.in_ok-again.ensures c.in_ok-named.ensures)))
