use Rattle.std.proofs.Common.{List, ap, sym, subst, ◌∙◌}
use Rattle.fp_base.specs.Least.{IsLeast}
use Rattle.fp_base.proofs.Calculus.{least_along, least_either}
use Rattle.fp_instances.specs.InstanceBroken.{BrokenByInstances}
use Rattle.fp_instances.specs.declared.instance_facts.InstanceFacts.{InstanceFacts}
use Rattle.fp_instances.specs.Ranges.{RangesBroken, ranges}
use Rattle.fp_instances.specs.declared.ranges.IdRange.{IdRange}
use Rattle.fp_instances.proofs.faults.instances_fault.Goals as goal

pub returns : goal.returns
returns c =
    let single = c.instance_faults-single.result in
    let overlaps = c.in_ok-overlaps.overlaps in
    let facts = c.as_slice.ensures ∙ c.in_ok-facts.ensures in
    let same = c.as_slice-3.ensures ∙ c.in_ok-ranges.ensures ∙ ap ranges (c.as_slice-2.ensures ∙ c.in_ok-facts.ensures) in
    least_along (sym c.lesser.ensures)
    (least_either single overlaps (subst (λ (fs : List InstanceFacts). IsLeast (BrokenByInstances fs) single) facts c.instance_faults-single.ensures)
    (subst (λ (rs : List IdRange). IsLeast (RangesBroken rs) overlaps) same c.in_ok-overlaps.ensures))
