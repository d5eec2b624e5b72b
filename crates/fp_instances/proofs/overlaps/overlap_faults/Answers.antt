use Rattle.std.proofs.Common.{arith, sym}
use Rattle.fp_base.proofs.Calculus.{least_along}
use Rattle.fp_base.proofs.Elements.{least_first_next, least_first_none, least_in_one}
use Rattle.fp_base.proofs.Spots.{item_below}
use Rattle.fp_instances.specs.Ranges.{OverlapsEarlier}
use Rattle.fp_instances.proofs.Apart.{all_ranges}
use Rattle.fp_instances.proofs.overlaps.overlap_faults.Goals as goal

pub places-init : goal.places-init
places-init c = least_first_none (OverlapsEarlier c.args.ranges.now) c.args.ranges.now

pub places-preserved : goal.places-preserved
places-preserved c =
    let rs = c.args.ranges.now in
    let one = item_below rs c.places.at c.places-test.true in
    least_along (sym c.lesser-first.ensures)
    (least_first_next (OverlapsEarlier rs) rs c.places.at c.places.first c.fault_at-fault.result c.places.invariant
    (least_in_one (OverlapsEarlier rs) rs c.places.at one.0 c.fault_at-fault.result one.1 (c.fault_at-fault.ensures one.0 one.1)))

pub returns : goal.returns
returns c = all_ranges c.args.ranges.now c.places.at c.places.first (omega (arith, c.places-test.false, c.places.auto.at-end)) c.places.invariant
