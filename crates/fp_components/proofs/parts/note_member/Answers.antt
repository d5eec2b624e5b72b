use Rattle.std.proofs.Common.{◌∙◌, refl}
use Rattle.fp_written_parts.specs.declared.member.WrittenMember.TheVariants.{Port, Import, Match}
use Rattle.fp_components.proofs.Noted.{passed, with_channel, with_command, with_event, with_param, with_running}
use Rattle.fp_components.proofs.parts.note_member.Goals as goal

pub returns-in-Port : goal.returns-in-Port
returns-in-Port c members before rest split known whole listed =
    passed c.args.types.now.written.now members before c.args.member.now (Port c.in-Port.field-0) _ c.in-Port.is refl refl refl refl refl listed

pub returns-in-Import : goal.returns-in-Import
returns-in-Import c members before rest split known whole listed =
    passed c.args.types.now.written.now members before c.args.member.now (Import c.in-Import.field-0) _ c.in-Import.is refl refl refl refl refl listed

pub returns-in-Command : goal.returns-in-Command
returns-in-Command c members before rest split known whole listed =
    with_command c.args.types.now.written.now members before rest c.args.ids.now known c.args.parts.now listed c.args.member.now split whole c.note_command.result
    c.in-Command.command c.get.result.now _ c.in-Command.is c.get.ensures c.note_command.ensures

pub returns-in-Event : goal.returns-in-Event
returns-in-Event c members before rest split known whole listed =
    with_event c.args.types.now.written.now members before rest c.args.ids.now known c.args.parts.now listed c.args.member.now split whole c.note_event.result
    c.in-Event.event c.get-in-Event.result.now _ c.in-Event.is c.get-in-Event.ensures c.note_event.ensures

pub returns-in-Channel : goal.returns-in-Channel
returns-in-Channel c members before rest split known whole listed =
    with_channel c.args.types.now.written.now members before rest c.args.ids.now known c.args.parts.now listed c.args.member.now split whole c.note_channel.result
    c.in-Channel.channel c.get-in-Channel.result.now _ c.in-Channel.is c.get-in-Channel.ensures c.note_channel.ensures

pub returns-in_ok-note_implied-in-Param : goal.returns-in_ok-note_implied-in-Param
returns-in_ok-note_implied-in-Param c members before rest split known whole listed =
    with_param c.args.types.now.written.now members before rest c.args.ids.now known c.args.parts.now listed c.args.member.now split whole c.note_param.result
    c.in-Param.param c.get-param.result.now c.in_ok-at-in-Param.at _ _ c.in-Param.is c.get-param.ensures (c.in_ok-at-in-Param.ensures ∙ c.len.ensures) c.in_ok-note_implied-in-Param.ensures c.note_param.ensures

pub returns-in-Match : goal.returns-in-Match
returns-in-Match c members before rest split known whole listed =
    passed c.args.types.now.written.now members before c.args.member.now (Match c.in-Match.field-0) _ c.in-Match.is refl refl refl refl refl listed

pub returns-in-Running : goal.returns-in-Running
returns-in-Running c members before rest split known whole listed =
    with_running c.args.types.now.written.now members before rest c.args.ids.now known c.args.parts.now listed c.args.member.now split whole c.note_running.result
    c.in-Running.running c.get-in-Running.result.now _ c.in-Running.is c.get-in-Running.ensures c.note_running.ensures
