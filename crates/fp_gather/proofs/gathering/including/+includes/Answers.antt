use Rattle.std.proofs.Common.{◌≡◌, List, ◌++◌, flat_map, sym, ap, subst, ◌∙◌}
use Rattle.std.specs.Prelude.{OnOk}
use Rattle.fp_tree.specs.declared.component.Part.{Part}
use Rattle.fp_tree.specs.declared.topology.TMember.{TMember}
use Rattle.fp_gather.specs.declared.gathering.including.Inclusion.{Inclusion}
use Rattle.fp_gather.specs.gathering.Includes.{inclusions_in_part, inclusions_in_topology_member, inclusions_within}
use Rattle.fp_gather.proofs.PartsPlaced.{component_inclusions, module_inclusions, topology_inclusions}
use Rattle.fp_gather.proofs.gathering.including.+includes.Goals as goal

pub of_member-returns-in-Module : goal.of_member-returns-in-Module
of_member-returns-in-Module t c =
    let gives = ap inclusions_within c.in-Module.is ∙ module_inclusions c.in-Module.module in
    subst (λ (x : List Inclusion). OnOk c.of_module.result (c.of_module.new.found ≡ c.args.found.now ++ x)) (sym gives) c.of_module.ensures

pub of_member-returns-in-Component : goal.of_member-returns-in-Component
of_member-returns-in-Component t c =
    let gives = ap inclusions_within c.in-Component.is ∙ component_inclusions c.in-Component.component ∙ ap (λ (ps : List Part). flat_map inclusions_in_part ps) (sym c.as_slice.ensures) in
    subst (λ (x : List Inclusion). OnOk c.of_parts.result (c.of_parts.new.found ≡ c.args.found.now ++ x)) (sym gives) c.of_parts.ensures

pub of_member-returns-in-Topology : goal.of_member-returns-in-Topology
of_member-returns-in-Topology t c =
    let gives = ap inclusions_within c.in-Topology.is ∙ topology_inclusions c.in-Topology.topology ∙ ap (λ (ts : List TMember). flat_map inclusions_in_topology_member ts) (sym c.as_slice-in-Topology.ensures) in
    subst (λ (x : List Inclusion). OnOk c.of_topology.result (c.of_topology.new.found ≡ c.args.found.now ++ x)) (sym gives) c.of_topology.ensures
