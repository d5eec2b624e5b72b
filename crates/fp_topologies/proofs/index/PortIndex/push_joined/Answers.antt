use Rattle.std.proofs.lemmas.Option.{slice_get-get_or}
use Rattle.fp_topologies.specs.Patterns.{joined_by}
use Rattle.fp_topologies.proofs.Growing.{filter_map_next}
use Rattle.fp_topologies.proofs.index.PortIndex.push_joined.Goals as goal

pub loop-join-preserved : goal.loop-join-preserved
loop-join-preserved c =
    let all = c.args.joins.now in
    let n = c.loop-join.join-index in
    filter_map_next (joined_by c.args.self.now.ports c.args.self.now.components c.args.self.now.instances c.args.pattern.now c.args.target) all n _ c.args.links.now c.loop-join.links c.push_some.new.links
    c.joined_by.result (slice_get-get_or all n _ c.loop-join-test.true) c.in_ok-push_some.ensures c.joined_by.ensures c.loop-join.invariant
