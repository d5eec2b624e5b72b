use Rattle.std.proofs.Common.{ℕ}
use Rattle.std.proofs.lemmas.Option.{slice_get-get_or}
use Rattle.fp_base.proofs.Elements.{least_first_none, least_next, least_of_all}
use Rattle.fp_instances.specs.InstanceBroken.{BrokenInstance}
use Rattle.fp_instances.proofs.instances_broken.instance_faults.Goals as goal

pub loop-instance-init : goal.loop-instance-init
loop-instance-init c = least_first_none (λ (k : ℕ). BrokenInstance) c.args.instances.now

pub loop-instance-preserved : goal.loop-instance-preserved
loop-instance-preserved c =
    let all = c.args.instances.now in
    let n = c.loop-instance.instance-index in
    least_next (λ (k : ℕ). BrokenInstance) all n _ c.loop-instance.first c.lesser-first.result c.instance_fault-fault.result (slice_get-get_or all n _ c.loop-instance-test.true) c.lesser-first.ensures c.instance_fault-fault.ensures c.loop-instance.invariant

pub returns : goal.returns
returns c = least_of_all (λ (k : ℕ). BrokenInstance) c.args.instances.now c.loop-instance.instance-index c.loop-instance.first c.loop-instance-test.false c.loop-instance.invariant
