use Rattle.std.proofs.Common.{refl}
use Rattle.fp_written_parts.specs.declared.member.WrittenMember.TheVariants.{Port, Import, Command, Event, Channel, Param, Running}
use Rattle.fp_components.proofs.Matched.{passed, with_match}
use Rattle.fp_components.proofs.matches.note_match.Goals as goal

pub returns-in-Port : goal.returns-in-Port
returns-in-Port c all before finds whole h = passed all before c.args.member.now (Port c.in-Port.field-0) c.args.pairs.now c.in-Port.is refl h

pub returns-in-Import : goal.returns-in-Import
returns-in-Import c all before finds whole h = passed all before c.args.member.now (Import c.in-Import.field-0) c.args.pairs.now c.in-Import.is refl h

pub returns-in-Command : goal.returns-in-Command
returns-in-Command c all before finds whole h = passed all before c.args.member.now (Command c.in-Command.field-0) c.args.pairs.now c.in-Command.is refl h

pub returns-in-Event : goal.returns-in-Event
returns-in-Event c all before finds whole h = passed all before c.args.member.now (Event c.in-Event.field-0) c.args.pairs.now c.in-Event.is refl h

pub returns-in-Channel : goal.returns-in-Channel
returns-in-Channel c all before finds whole h = passed all before c.args.member.now (Channel c.in-Channel.field-0) c.args.pairs.now c.in-Channel.is refl h

pub returns-in-Param : goal.returns-in-Param
returns-in-Param c all before finds whole h = passed all before c.args.member.now (Param c.in-Param.field-0) c.args.pairs.now c.in-Param.is refl h

pub returns-in-Match : goal.returns-in-Match
returns-in-Match c all before finds whole h =
    with_match all c.push.result before c.args.member.now c.in-Match.matched c.get.result.now c.args.pairs.now _ c.pair_of.result c.in-Match.is c.get.ensures whole (c.pair_of.ensures all finds) h
    c.push.ensures.ok

pub returns-in-Running : goal.returns-in-Running
returns-in-Running c all before finds whole h = passed all before c.args.member.now (Running c.in-Running.field-0) c.args.pairs.now c.in-Running.is refl h
