use Rattle.std.proofs.Common.{◌∷◌, [], None, flat_map, sym}
use Rattle.fp_meaning.specs.Sites.{naming}
use Rattle.fp_meaning.specs.Layout.{connection_items, topology_member_items, pattern_items}
use Rattle.fp_part_values.specs.Numbers.{connection_numbers, topology_member_numbers}
use Rattle.fp_part_values.proofs.Joining.{moved, nothing_there, nothing_passed, faults_at}
use Rattle.fp_meaning.specs.declared.item.Item.TheVariants as item
use Rattle.fp_meaning.specs.declared.group.Group.TheVariants as group
use Rattle.fp_tree.specs.declared.topology.TMember.TheVariants as topology_member
use Rattle.fp_part_values.proofs.topologies.member_fault.Goals as goal

pub returns-in-Include : goal.returns-in-Include
returns-in-Include c source scope =
    faults_at source c.args.marks.now c.args.resolutions.now scope (topology_member_items scope) (λ x. []) topology_member_numbers c.args.member.now (topology_member.Include c.in-Include.field-0) c.args.next.now c.args.next.now None c.in-Include.is (nothing_there source c.args.marks.now c.args.resolutions.now scope c.args.next.now)

pub returns-in-Instance : goal.returns-in-Instance
returns-in-Instance c source scope =
    let i = item.Used 0 (naming group.Instance scope c.in-Instance.field-0.of) in
    faults_at source c.args.marks.now c.args.resolutions.now scope (topology_member_items scope) (λ x. []) topology_member_numbers c.args.member.now (topology_member.Instance c.in-Instance.field-0) c.args.next.now c.nothing_at_name.new.next c.nothing_at_name.result c.in-Instance.is
    (nothing_passed source c.args.marks.now c.args.resolutions.now scope (i ∷ []) c.args.next.now c.nothing_at_name.new.next c.nothing_at_name.result c.nothing_at_name.ensures.nothing (moved source c.args.marks.now c.args.resolutions.now i c.args.next.now c.nothing_at_name.new.next c.nothing_at_name.ensures.moves))

pub returns-in-Import : goal.returns-in-Import
returns-in-Import c source scope =
    let i = item.Used 0 (naming group.Topology scope c.in-Import.field-0.of) in
    faults_at source c.args.marks.now c.args.resolutions.now scope (topology_member_items scope) (λ x. []) topology_member_numbers c.args.member.now (topology_member.Import c.in-Import.field-0) c.args.next.now c.nothing_at_name-in-Import.new.next c.nothing_at_name-in-Import.result c.in-Import.is
    (nothing_passed source c.args.marks.now c.args.resolutions.now scope (i ∷ []) c.args.next.now c.nothing_at_name-in-Import.new.next c.nothing_at_name-in-Import.result c.nothing_at_name-in-Import.ensures.nothing (moved source c.args.marks.now c.args.resolutions.now i c.args.next.now c.nothing_at_name-in-Import.new.next c.nothing_at_name-in-Import.ensures.moves))

pub returns-in-Connections : goal.returns-in-Connections
returns-in-Connections c source scope =
    faults_at source c.args.marks.now c.args.resolutions.now scope (topology_member_items scope) (λ x. []) topology_member_numbers c.args.member.now (topology_member.Connections c.in-Connections.group) c.args.next.now c.connections_fault.new.next c.connections_fault.result c.in-Connections.is
    (faults_at source c.args.marks.now c.args.resolutions.now scope (flat_map (connection_items scope)) (λ x. []) (flat_map connection_numbers) c.in-Connections.group.connections c.as_slice-connections.result.now c.args.next.now c.connections_fault.new.next c.connections_fault.result
    (sym c.as_slice-connections.ensures) (c.connections_fault.ensures source scope))

pub returns-in-Pattern : goal.returns-in-Pattern
returns-in-Pattern c source scope =
    let p = c.in-Pattern.pattern in
    faults_at source c.args.marks.now c.args.resolutions.now scope (topology_member_items scope) (λ x. []) topology_member_numbers c.args.member.now (topology_member.Pattern p) c.args.next.now c.nothing_in_pattern.new.next c.nothing_in_pattern.result c.in-Pattern.is
    (nothing_passed source c.args.marks.now c.args.resolutions.now scope (pattern_items scope p) c.args.next.now c.nothing_in_pattern.new.next c.nothing_in_pattern.result c.nothing_in_pattern.ensures.nothing (c.nothing_in_pattern.ensures.passes source c.args.marks.now scope))
