use Rattle.std.proofs.Common.{sym, ◌∙◌}
use Rattle.fp_base.proofs.Calculus.{least_along, least_either}
use Rattle.fp_machine_rules.proofs.faults.use_fault.Goals as goal

pub typed_fault-requires : goal.typed_fault-requires
typed_fault-requires c = c.deref.ensures.value ∙ c.in_ok-places.ensures

pub undefined_fault-requires : goal.undefined_fault-requires
undefined_fault-requires c = c.deref-2.ensures.value ∙ c.in_ok-places.ensures

pub returns : goal.returns
returns c = least_along (sym c.lesser.ensures) (least_either _ _ c.in_ok-typed.ensures c.in_ok-undefined.ensures)
