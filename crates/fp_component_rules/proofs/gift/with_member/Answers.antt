use Rattle.std.proofs.Common.{zero, [], ◌∷◌, ◌++◌, Some, refl, sym, ap, subst}
use Rattle.std.specs.Prelude.{IfOk}
use Rattle.fp_written_parts.specs.declared.member.WrittenMember.{WrittenMember}
use Rattle.fp_component_rules.specs.Gifts.{IsGift}
use Rattle.fp_component_rules.proofs.Summed.{if_own, passed_channel, passed_command, passed_event, passed_match, passed_param, passed_running}
use Rattle.fp_component_rules.proofs.gift.with_member.Goals as goal

pub returns-in-Port : goal.returns-in-Port
returns-in-Port c fs before h serves =
    if_own fs before c.args.member.now c.get.result.now _ c.args.gift c.with_port.result c.in-Port.is c.get.ensures h c.with_port.ensures.sums c.with_port.ensures.leads

pub returns-in-Import : goal.returns-in-Import
returns-in-Import c fs before h serves =
    subst (λ (m : WrittenMember). IfOk c.with_import.result (IsGift fs (before ++ m ∷ []))) (sym c.in-Import.is)
    (c.with_import.ensures fs before c.in-Import.import refl h (serves zero c.in-Import.import (ap Some c.in-Import.is)))

pub returns-in-Command : goal.returns-in-Command
returns-in-Command c fs before h serves = passed_command fs before c.args.member.now c.args.gift c.in-Command.is h

pub returns-in-Event : goal.returns-in-Event
returns-in-Event c fs before h serves = passed_event fs before c.args.member.now c.args.gift c.in-Event.is h

pub returns-in-Channel : goal.returns-in-Channel
returns-in-Channel c fs before h serves = passed_channel fs before c.args.member.now c.args.gift c.in-Channel.is h

pub returns-in-Param : goal.returns-in-Param
returns-in-Param c fs before h serves = passed_param fs before c.args.member.now c.args.gift c.in-Param.is h

pub returns-in-Match : goal.returns-in-Match
returns-in-Match c fs before h serves = passed_match fs before c.args.member.now c.args.gift c.in-Match.is h

pub returns-in-Running : goal.returns-in-Running
returns-in-Running c fs before h serves = passed_running fs before c.args.member.now c.args.gift c.in-Running.is h
