use Rattle.fp_dictdefs.proofs.Instances.{InstancesFirst}
use Rattle.fp_dictdefs.proofs.running.instances_fault.Given as goal

abbrev pub invariant-loop-member : goal.invariant-loop-member
invariant-loop-member l = InstancesFirst l.externals l.members l.member-index l.first l.seen
