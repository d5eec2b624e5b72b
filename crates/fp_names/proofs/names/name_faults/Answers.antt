use Rattle.std.proofs.Common.{sym}
use Rattle.fp_base.proofs.Calculus.{least_along, least_either}
use Rattle.fp_names.proofs.names.name_faults.Goals as goal

pub returns : goal.returns
returns c = least_along (sym c.lesser.ensures) (least_either _ _ c.in_ok-named.ensures.twice c.in_ok-found.ensures.least)
