use Rattle.std.proofs.lemmas.Option.{slice_get-get_or}
use Rattle.fp_base.proofs.Elements.{least_first_none, least_next, least_of_all}
use Rattle.fp_topologies.specs.Broken.{TargetBroken}
use Rattle.fp_topologies.proofs.Folding.{least_where_false}
use Rattle.fp_topologies.proofs.rule_patterns.targets_fault.Goals as goal

pub loop-target-init : goal.loop-target-init
loop-target-init c = least_first_none (TargetBroken c.args.index.now.ports c.args.index.now.components c.args.index.now.instances c.args.kind) c.args.targets.now

pub loop-target-preserved : goal.loop-target-preserved
loop-target-preserved c =
    let all = c.args.targets.now in
    let n = c.loop-target.target-index in
    least_next (TargetBroken c.args.index.now.ports c.args.index.now.components c.args.index.now.instances c.args.kind) all n _ c.loop-target.first c.lesser-first.result c.refusal_if-fault.result
    (slice_get-get_or all n _ c.loop-target-test.true) c.lesser-first.ensures
    (least_where_false _ c.suits-suits.result _ c.refusal_if-fault.result c.suits-suits.ensures c.refusal_if-fault.ensures) c.loop-target.invariant

pub returns : goal.returns
returns c =
    least_of_all (TargetBroken c.args.index.now.ports c.args.index.now.components c.args.index.now.instances c.args.kind) c.args.targets.now c.loop-target.target-index c.loop-target.first c.loop-target-test.false
    c.loop-target.invariant
