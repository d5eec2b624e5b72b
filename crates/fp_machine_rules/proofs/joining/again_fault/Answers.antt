use Rattle.std.proofs.Common.{sym}
use Rattle.fp_base.proofs.Calculus.{least_along, least_either}
use Rattle.fp_machine_rules.proofs.joining.again_fault.Goals as goal

pub returns : goal.returns
returns c =
    least_along (sym c.lesser.ensures)
    (least_either _ _ c.in_ok-signal.ensures
    (least_along (sym c.lesser-more.ensures)
    (least_either _ _ c.in_ok-name.ensures (least_along (sym c.lesser-later.ensures) (least_either _ _ c.in_ok-entry.ensures c.in_ok-exit.ensures)))))
