use Rattle.std.proofs.Common.{[], flat_map, sym, ap}
use Rattle.fp_meaning.specs.Sites.{machine, component, interface, instance, topology}
use Rattle.fp_meaning.specs.Read.{read}
use Rattle.fp_meaning.specs.Layout.{component_scope, interface_part_items, own_items, topology_member_items}
use Rattle.fp_part_values.specs.Names.{part_names}
use Rattle.fp_part_values.specs.Numbers.{part_numbers, interface_part_numbers, topology_member_numbers}
use Rattle.fp_part_values.proofs.Joining.{faults_at}
use Rattle.fp_part_values.proofs.Declaring.{definition_by}
use Rattle.fp_part_values.proofs.form_checking.definition_fault.Goals as goal

pub returns-in-Machine : goal.returns-in-Machine
returns-in-Machine c source scope =
    let d = c.in-Machine.machine.now in
    definition_by source c.args.marks.now c.args.resolutions.now c.args.start scope (read c.args.definition) (machine d) c.behavior_fault.new.next c.behavior_fault.result (ap read c.in-Machine.is)
    (c.behavior_fault.ensures source scope)

pub returns-in-Component : goal.returns-in-Component
returns-in-Component c source scope =
    let d = c.in-Component.component.now in
    definition_by source c.args.marks.now c.args.resolutions.now c.args.start scope (read c.args.definition) (component d) c.parts_fault.new.next c.parts_fault.result (ap read c.in-Component.is)
    (faults_at source c.args.marks.now c.args.resolutions.now (component_scope scope d) (flat_map (own_items (component_scope scope d))) (flat_map part_names) (flat_map part_numbers) d.parts c.as_slice-parts.result.now c.args.start c.parts_fault.new.next c.parts_fault.result (sym c.as_slice-parts.ensures)
    (c.parts_fault.ensures source (component_scope scope d)))

pub returns-in-Interface : goal.returns-in-Interface
returns-in-Interface c source scope =
    let d = c.in-Interface.interface.now in
    definition_by source c.args.marks.now c.args.resolutions.now c.args.start scope (read c.args.definition) (interface d) c.interface_parts_fault.new.next c.interface_parts_fault.result (ap read c.in-Interface.is)
    (faults_at source c.args.marks.now c.args.resolutions.now scope (flat_map (interface_part_items scope)) (λ x. []) (flat_map interface_part_numbers) d.parts c.as_slice-parts-in-Interface.result.now c.args.start c.interface_parts_fault.new.next c.interface_parts_fault.result (sym c.as_slice-parts-in-Interface.ensures)
    (c.interface_parts_fault.ensures source scope))

pub returns-in-Instance : goal.returns-in-Instance
returns-in-Instance c source scope =
    let d = c.in-Instance.instance.now in
    definition_by source c.args.marks.now c.args.resolutions.now c.args.start scope (read c.args.definition) (instance d) c.instance_fault.new.next c.instance_fault.result (ap read c.in-Instance.is)
    (c.instance_fault.ensures source scope)

pub returns-in-Topology : goal.returns-in-Topology
returns-in-Topology c source scope =
    let d = c.in-Topology.topology.now in
    definition_by source c.args.marks.now c.args.resolutions.now c.args.start scope (read c.args.definition) (topology d) c.members_fault.new.next c.members_fault.result (ap read c.in-Topology.is)
    (faults_at source c.args.marks.now c.args.resolutions.now scope (flat_map (topology_member_items scope)) (λ x. []) (flat_map topology_member_numbers) d.members c.as_slice-members.result.now c.args.start c.members_fault.new.next c.members_fault.result (sym c.as_slice-members.ensures)
    (c.members_fault.ensures source scope))
