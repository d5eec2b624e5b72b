use Rattle.std.proofs.lemmas.Option.{slice_get-get_or}
use Rattle.fp_instances.proofs.Ranged.{one_more}
use Rattle.fp_instances.proofs.ranges.ranges_of.Goals as goal

pub loop-instance-preserved : goal.loop-instance-preserved
loop-instance-preserved c =
    let all = c.args.facts.now in
    let n = c.loop-instance.instance-index in
    one_more all n _ c.loop-instance.ranges c.in_ok-ranges.ranges c.range_of-range.result (slice_get-get_or all n _ c.loop-instance-test.true) c.range_of-range.ensures c.in_ok-ranges.ensures c.loop-instance.invariant
