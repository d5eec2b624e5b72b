use Rattle.std.proofs.Common.{sym}
use Rattle.fp_base.proofs.Calculus.{least_along, least_either}
use Rattle.fp_numbering.proofs.partners.partner_faults.Goals as goal

pub returns : goal.returns
returns c = least_along (sym c.lesser.ensures) (least_either c.in_ok-missing.missing c.in_ok-repeated.repeated c.in_ok-missing.ensures c.in_ok-repeated.ensures)
