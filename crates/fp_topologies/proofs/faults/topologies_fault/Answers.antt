use Rattle.std.proofs.Common.{arith, length, refl}
use Rattle.std.proofs.lemmas.Option.{slice_get_read}
use Rattle.fp_base.proofs.Elements.{least_next, least_of_all}
use Rattle.fp_topologies.specs.Broken.{TopologyBroken}
use Rattle.fp_topologies.proofs.faults.topologies_fault.Goals as goal

pub loop-at-preserved : goal.loop-at-preserved
loop-at-preserved c =
    let all = c.args.written.now in
    let n = c.loop-at.at in
    let x = c.index-written-at.result in
    least_next (TopologyBroken c.args.index.now.ports c.args.index.now.components c.args.index.now.instances c.args.written.now c.args.closures.now) all n x c.loop-at.first c.lesser-first.result c.in_ok-fault.fault
    (slice_get_read all (length all) n x refl (omega arith) c.index-written-at.is) c.lesser-first.ensures c.in_ok-fault.ensures c.loop-at.invariant

pub returns : goal.returns
returns c = least_of_all (TopologyBroken c.args.index.now.ports c.args.index.now.components c.args.index.now.instances c.args.written.now c.args.closures.now) c.args.written.now c.loop-at.at c.loop-at.first (omega arith) c.loop-at.invariant
