use Rattle.std.proofs.Common.{sym}
use Rattle.fp_base.proofs.Calculus.{least_along, least_either}
use Rattle.fp_topologies.proofs.members_broken.member_faults.Goals as goal

pub returns : goal.returns
returns c =
    least_along (sym c.lesser.ensures)
    (least_either c.in_ok-repeated.repeated c.lacking_fault-lacking.result c.in_ok-repeated.ensures (c.lacking_fault-lacking.ensures c.args.held.now c.in_ok-held.ensures))
