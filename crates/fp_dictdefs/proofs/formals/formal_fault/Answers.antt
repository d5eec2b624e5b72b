use Rattle.std.proofs.Common.{sym}
use Rattle.fp_base.proofs.Calculus.{least_along, least_either}
use Rattle.fp_dictdefs.proofs.formals.formal_fault.Goals as goal

pub returns : goal.returns
returns c =
    least_along (sym c.lesser.ensures) (least_either c.in_ok-repeated.repeated c.ref_formal-by_ref.result c.in_ok-repeated.ensures c.ref_formal-by_ref.ensures)
