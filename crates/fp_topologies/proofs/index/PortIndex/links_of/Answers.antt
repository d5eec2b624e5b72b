use Rattle.std.proofs.Common.{[], length, refl}
use Rattle.std.proofs.lemmas.Option.{slice_get_read}
use Rattle.fp_topologies.specs.Ports.{link_of}
use Rattle.fp_topologies.proofs.Growing.{filter_map_next}
use Rattle.fp_topologies.proofs.index.PortIndex.links_of.Goals as goal

pub loop-connection-preserved : goal.loop-connection-preserved
loop-connection-preserved c =
    let all = c.args.connections.now in
    let n = c.loop-connection.connection-index in
    let x = c.connection-item.result in
    filter_map_next (link_of c.args.self.now.components c.args.self.now.instances) all n x [] c.loop-connection.links c.push_some.new.links c.link_of.result
    (slice_get_read all (length all) n x refl c.loop-connection-test.true c.connection-item.is) c.in_ok-push_some.ensures c.link_of.ensures c.loop-connection.invariant
