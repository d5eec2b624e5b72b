use Rattle.std.proofs.Common.{IfOk, sym, subst}
use Rattle.fp_base.specs.Least.{IsLeast}
use Rattle.fp_written_parts.specs.declared.dictionary.WrittenCommand.{WrittenCommand}
use Rattle.fp_written_parts.specs.declared.dictionary.WrittenEvent.{WrittenEvent}
use Rattle.fp_written_parts.specs.declared.member.WrittenMember.{WrittenMember}
use Rattle.fp_dictdefs.specs.Broken.{BrokenCommand, BrokenEvent, BrokenMember}
use Rattle.fp_dictdefs.proofs.members.member_fault.Goals as goal

pub returns-in-Command : goal.returns-in-Command
returns-in-Command c =
    subst (λ (m : WrittenMember). IfOk c.command_fault.result (IsLeast (BrokenMember c.args.types.now m))) (sym c.in-Command.is)
    (subst (λ (w : WrittenCommand). IfOk c.command_fault.result (IsLeast (BrokenCommand w))) c.get.ensures c.command_fault.ensures)

pub returns-in-Event : goal.returns-in-Event
returns-in-Event c =
    subst (λ (m : WrittenMember). IfOk c.event_fault.result (IsLeast (BrokenMember c.args.types.now m))) (sym c.in-Event.is)
    (subst (λ (w : WrittenEvent). IfOk c.event_fault.result (IsLeast (BrokenEvent w))) c.get-in-Event.ensures c.event_fault.ensures)
