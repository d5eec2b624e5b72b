use Rattle.std.proofs.Common.{sym, subst}
use Rattle.fp_topologies.proofs.Placing.{ArePlaced, placed_next, placed_none}
use Rattle.fp_topologies.proofs.resolving.resolved.Goals as goal

pub places-init : goal.places-init
places-init c =
    subst (ArePlaced c.args.components.now c.args.instances.now c.args.written.now c.args.closures.now c.args.joined.now 0) (sym c.new-topologies.ensures)
    (placed_none c.args.components.now c.args.instances.now c.args.written.now c.args.closures.now c.args.joined.now)

pub places-preserved : goal.places-preserved
places-preserved c =
    placed_next c.args.components.now c.args.instances.now c.args.written.now c.args.closures.now c.args.joined.now c.places.at c.written_at.result.now c.one_joined.result.now c.in_ok-links.links c.in_ok-sorted.sorted c.in_ok-one.one
    c.written_at.ensures c.one_joined.ensures (c.in_ok-links.ensures c.one_joined.result.now c.one_joined.ensures) c.in_ok-sorted.ensures c.in_ok-one.ensures c.places.topologies c.push.new.self c.in_ok-push.ensures.ok
    c.places.invariant
