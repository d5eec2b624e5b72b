use Rattle.std.proofs.Common.{[]}
use Rattle.std.proofs.lemmas.Option.{slice_get-get_or}
use Rattle.fp_topologies.specs.Patterns.{join_at}
use Rattle.fp_topologies.proofs.Growing.{filter_map_next}
use Rattle.fp_topologies.proofs.index.PortIndex.joins_at.Goals as goal

pub loop-join-preserved : goal.loop-join-preserved
loop-join-preserved c =
    let all = c.args.joins.now in
    let n = c.loop-join.join-index in
    filter_map_next (join_at c.args.self.now.ports c.args.self.now.components c.args.self.now.instances c.args.instance) all n _ [] c.loop-join.there c.push_join.new.joins c.join_at.result
    (slice_get-get_or all n _ c.loop-join-test.true) c.in_ok-push_join.ensures c.join_at.ensures c.loop-join.invariant
