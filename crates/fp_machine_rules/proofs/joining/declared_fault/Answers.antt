use Rattle.std.proofs.Common.{sym}
use Rattle.fp_base.proofs.Calculus.{least_along, least_either}
use Rattle.fp_machine_rules.proofs.joining.declared_fault.Goals as goal

pub returns : goal.returns
returns c =
    least_along (sym c.lesser.ensures)
    (least_either _ _ c.in_ok-signal.ensures (least_along (sym c.lesser-later.ensures) (least_either _ _ c.in_ok-action.ensures c.in_ok-guard.ensures)))
