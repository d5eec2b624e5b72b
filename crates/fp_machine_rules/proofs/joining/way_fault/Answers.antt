use Rattle.std.proofs.Common.{sym}
use Rattle.fp_base.proofs.Calculus.{least_along, least_either}
use Rattle.fp_machine_rules.proofs.joining.way_fault.Goals as goal

pub returns : goal.returns
returns c =
    least_along (sym c.lesser.ensures)
    (least_either _ _ c.in_ok-count.ensures
    (least_along (sym c.lesser-more.ensures)
    (least_either _ _ c.in_ok-leaving.ensures (least_along (sym c.lesser-later.ensures) (least_either _ _ c.in_ok-ring.ensures c.in_ok-reach.ensures)))))
