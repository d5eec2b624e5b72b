use Rattle.std.proofs.Common.{List, sym, subst}
use Rattle.fp_base.specs.Least.{InSome, IsLeast}
use Rattle.fp_base.proofs.Calculus.{least_along, least_either}
use Rattle.fp_written_parts.specs.declared.topology.UsedInstance.{UsedInstance}
use Rattle.fp_topologies.specs.Broken.{TargetBroken}
use Rattle.fp_topologies.proofs.Folding.{least_where_false}
use Rattle.fp_topologies.proofs.rule_patterns.pattern_fault.Goals as goal

pub returns : goal.returns
returns c k =
    least_along (sym c.lesser.ensures)
    (least_either c.refusal_if-one.result c.targets_fault-others.result
    (least_where_false _ c.serves-serves.result _ c.refusal_if-one.result c.serves-serves.ensures c.refusal_if-one.ensures)
    (subst (λ (us : List UsedInstance). IsLeast (InSome (TargetBroken c.args.index.now.ports c.args.index.now.components c.args.index.now.instances c.args.pattern.now.kind) us) c.targets_fault-others.result) c.targets_of.ensures
    c.targets_fault-others.ensures))
