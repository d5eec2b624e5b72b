use Rattle.std.proofs.Common.{sym}
use Rattle.fp_base.specs.declared.rule.Rule.TheVariants.{TypesDiffer}
use Rattle.fp_base.specs.Least.{broken_at}
use Rattle.fp_base.proofs.Calculus.{least_along, least_either, least_told}
use Rattle.fp_topologies.specs.ConnectionBroken.{Differ}
use Rattle.fp_topologies.proofs.connections_broken.connection_fault.Goals as goal

pub returns : goal.returns
returns c =
    let connection = c.args.connection.now in
    least_along (sym c.lesser.ensures)
    (least_either c.refusal_if-types.result c.lesser-ends.result
    (least_told (Differ connection.from.port connection.to.port) c.differ-differ.result (broken_at TypesDiffer connection.at) c.refusal_if-types.result c.differ-differ.ensures c.refusal_if-types.ensures)
    (least_along (sym c.lesser-ends.ensures) (least_either c.from_fault-from.result c.to_fault-to.result c.from_fault-from.ensures c.to_fault-to.ensures)))
