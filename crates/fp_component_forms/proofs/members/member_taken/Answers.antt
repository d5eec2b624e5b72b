use Rattle.std.proofs.Common.{[], sym, ap, ◌∙◌}
use Rattle.std.specs.Option.{option_to_list}
use Rattle.fp_base.proofs.Options.{if_ok_then}
use Rattle.fp_tree.specs.declared.component.Part.TheVariants as part
use Rattle.fp_type_forms.proofs.Taking.{taken_nothing}
use Rattle.fp_component_forms.proofs.Readers.{member_by}
use Rattle.fp_component_forms.proofs.members.member_taken.Goals as goal

pub returns-in-Def : goal.returns-in-Def
returns-in-Def c source scope ready =
    member_by source c.args.marks.now c.args.resolutions.now scope c.args.part.now (part.Def c.in-Def.field-0) c.args.next.now c.args.next.now [] c.in-Def.is (taken_nothing source c.args.marks.now c.args.resolutions.now c.args.next.now (λ has. tt))

pub returns-in-Machine : goal.returns-in-Machine
returns-in-Machine c source scope ready =
    member_by source c.args.marks.now c.args.resolutions.now scope c.args.part.now (part.Machine c.in-Machine.field-0) c.args.next.now c.args.next.now [] c.in-Machine.is (taken_nothing source c.args.marks.now c.args.resolutions.now c.args.next.now (λ has. tt))

pub returns-in-Include : goal.returns-in-Include
returns-in-Include c source scope ready =
    member_by source c.args.marks.now c.args.resolutions.now scope c.args.part.now (part.Include c.in-Include.field-0) c.args.next.now c.args.next.now [] c.in-Include.is (taken_nothing source c.args.marks.now c.args.resolutions.now c.args.next.now (λ has. tt))

pub returns-in-General : goal.returns-in-General
returns-in-General c =
    if_ok_then c.general_member.result _ _
    (λ one h source scope ready. member_by source c.args.marks.now c.args.resolutions.now scope c.args.part.now (part.General c.get.result.now) c.args.next.now c.general_member.new.next (option_to_list one) (c.in-General.is ∙ ap (λ x. part.General x) (sym c.get.ensures)) (h source scope ready))
    c.general_member.ensures

pub returns-in-Internal : goal.returns-in-Internal
returns-in-Internal c =
    if_ok_then c.internal_member.result _ _
    (λ one h source scope ready. member_by source c.args.marks.now c.args.resolutions.now scope c.args.part.now (part.Internal c.get-in-Internal.result.now) c.args.next.now c.internal_member.new.next (option_to_list one) (c.in-Internal.is ∙ ap (λ x. part.Internal x) (sym c.get-in-Internal.ensures)) (h source scope))
    c.internal_member.ensures

pub returns-in-Command : goal.returns-in-Command
returns-in-Command c =
    if_ok_then c.command_member.result _ _
    (λ one h source scope ready. member_by source c.args.marks.now c.args.resolutions.now scope c.args.part.now (part.Command c.get-in-Command.result.now) c.args.next.now c.command_member.new.next (option_to_list one) (c.in-Command.is ∙ ap (λ x. part.Command x) (sym c.get-in-Command.ensures)) (h source scope))
    c.command_member.ensures

pub returns-in-Event : goal.returns-in-Event
returns-in-Event c =
    if_ok_then c.event_member.result _ _
    (λ one h source scope ready. member_by source c.args.marks.now c.args.resolutions.now scope c.args.part.now (part.Event c.get-in-Event.result.now) c.args.next.now c.event_member.new.next (option_to_list one) (c.in-Event.is ∙ ap (λ x. part.Event x) (sym c.get-in-Event.ensures)) (h source scope))
    c.event_member.ensures

pub returns-in-Channel : goal.returns-in-Channel
returns-in-Channel c =
    if_ok_then c.channel_member.result _ _
    (λ one h source scope ready. member_by source c.args.marks.now c.args.resolutions.now scope c.args.part.now (part.Channel c.get-in-Channel.result.now) c.args.next.now c.channel_member.new.next (option_to_list one) (c.in-Channel.is ∙ ap (λ x. part.Channel x) (sym c.get-in-Channel.ensures)) (h source scope))
    c.channel_member.ensures

pub returns-in-Param : goal.returns-in-Param
returns-in-Param c =
    if_ok_then c.param_member.result _ _
    (λ one h source scope ready. member_by source c.args.marks.now c.args.resolutions.now scope c.args.part.now (part.Param c.get-in-Param.result.now) c.args.next.now c.param_member.new.next (option_to_list one) (c.in-Param.is ∙ ap (λ x. part.Param x) (sym c.get-in-Param.ensures)) (h source scope))
    c.param_member.ensures

pub returns-in-Running : goal.returns-in-Running
returns-in-Running c =
    if_ok_then c.running_member.result _ _
    (λ one h source scope ready. member_by source c.args.marks.now c.args.resolutions.now scope c.args.part.now (part.Running c.get-in-Running.result.now) c.args.next.now c.running_member.new.next (option_to_list one) (c.in-Running.is ∙ ap (λ x. part.Running x) (sym c.get-in-Running.ensures)) (h source scope ready))
    c.running_member.ensures

pub returns-in-Import : goal.returns-in-Import
returns-in-Import c =
    if_ok_then c.import_member.result _ _
    (λ one h source scope ready. member_by source c.args.marks.now c.args.resolutions.now scope c.args.part.now (part.Import c.in-Import.import) c.args.next.now c.import_member.new.next (option_to_list one) c.in-Import.is (h source scope c.args.marks.now ready))
    c.import_member.ensures

pub returns-in-Special : goal.returns-in-Special
returns-in-Special c =
    if_ok_then c.special_member.result _ _
    (λ one h source scope ready. member_by source c.args.marks.now c.args.resolutions.now scope c.args.part.now (part.Special c.in-Special.port) c.args.next.now c.args.next.now (option_to_list one) c.in-Special.is (taken_nothing source c.args.marks.now c.args.resolutions.now c.args.next.now (h source scope ready)))
    c.special_member.ensures

pub returns-in-Match : goal.returns-in-Match
returns-in-Match c =
    if_ok_then c.match_member.result _ _
    (λ one h source scope ready. member_by source c.args.marks.now c.args.resolutions.now scope c.args.part.now (part.Match c.get-in-Match.result.now) c.args.next.now c.args.next.now (option_to_list one) (c.in-Match.is ∙ ap (λ x. part.Match x) (sym c.get-in-Match.ensures)) (taken_nothing source c.args.marks.now c.args.resolutions.now c.args.next.now (h source scope)))
    c.match_member.ensures
