use Rattle.std.proofs.Common.{sym}
use Rattle.fp_base.proofs.Calculus.{least_along, least_either}
use Rattle.fp_machine_rules.proofs.faults.fault_inside.Goals as goal

pub returns : goal.returns
returns c = least_along (sym c.lesser.ensures) (least_either _ _ c.in_ok-item.ensures c.in_ok-used.ensures)
