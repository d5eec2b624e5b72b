use Rattle.fp_base.proofs.Options.{if_ok_then}
use Rattle.fp_tree.specs.declared.topology.TMember.TheVariants as member
use Rattle.fp_type_forms.proofs.Taking.{taken_nothing}
use Rattle.fp_topology_forms.proofs.Rows.{include_behind, member_by}
use Rattle.fp_topology_forms.proofs.members.with_member.Goals as goal

pub returns-in-Instance : goal.returns-in-Instance
returns-in-Instance c =
    if_ok_then c.with_instance.result _ _
    (λ after h source scope ready. member_by source scope c.args.marks.now c.args.resolutions.now c.args.member.now (member.Instance c.in-Instance.instance) c.args.next.now c.with_instance.new.next c.args.before after c.in-Instance.is (h source scope c.args.marks.now ready))
    c.with_instance.ensures

pub returns-in-Import : goal.returns-in-Import
returns-in-Import c =
    if_ok_then c.with_import.result _ _
    (λ after h source scope ready. member_by source scope c.args.marks.now c.args.resolutions.now c.args.member.now (member.Import c.in-Import.import) c.args.next.now c.with_import.new.next c.args.before after c.in-Import.is (h source scope c.args.marks.now ready))
    c.with_import.ensures

pub returns-in-Include : goal.returns-in-Include
returns-in-Include c source scope ready =
    member_by source scope c.args.marks.now c.args.resolutions.now c.args.member.now (member.Include _) c.args.next.now c.args.next.now c.args.before c.args.before c.in-Include.is
    (taken_nothing source c.args.marks.now c.args.resolutions.now c.args.next.now (include_behind source scope c.args.before _))

pub returns-in-Connections : goal.returns-in-Connections
returns-in-Connections c =
    if_ok_then c.with_connections.result _ _
    (λ after h source scope ready. member_by source scope c.args.marks.now c.args.resolutions.now c.args.member.now (member.Connections c.in-Connections.group) c.args.next.now c.with_connections.new.next c.args.before after c.in-Connections.is (h source scope ready))
    c.with_connections.ensures

pub returns-in-Pattern : goal.returns-in-Pattern
returns-in-Pattern c =
    if_ok_then c.with_pattern.result _ _
    (λ after h source scope ready. member_by source scope c.args.marks.now c.args.resolutions.now c.args.member.now (member.Pattern c.in-Pattern.pattern) c.args.next.now c.with_pattern.new.next c.args.before after c.in-Pattern.is (h source scope c.args.marks.now ready))
    c.with_pattern.ensures
