use Rattle.std.proofs.lemmas.Option.{slice_get-get_or}
use Rattle.fp_topologies.specs.Patterns.{is_target, links_by}
use Rattle.fp_topologies.proofs.Growing.{flat_map_filtered}
use Rattle.fp_topologies.proofs.index.PortIndex.unlisted_links.Goals as goal

pub loop-target-preserved : goal.loop-target-preserved
loop-target-preserved c =
    let all = c.args.held.now in
    let n = c.loop-target.target-index in
    flat_map_filtered (links_by c.args.self.now.ports c.args.self.now.components c.args.self.now.instances c.args.pattern.now c.args.joins.now) (is_target c.args.self.now.ports c.args.self.now.components c.args.self.now.instances c.args.pattern.now) all n _ c.loop-target.links
    c.push_target.new.links (slice_get-get_or all n _ c.loop-target-test.true) c.in_ok-push_target.ensures c.loop-target.invariant
