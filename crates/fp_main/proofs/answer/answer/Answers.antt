use Rattle.std.proofs.Common.{Ok, inl, map, refl, subst}
use Rattle.std.specs.String.{string_bytes}
use Rattle.fp_base.proofs.Options.{if_ok_then}
use Rattle.fp_main.specs.Words.{ReadsWords}
use Rattle.fp_main.specs.declared.words.Command.{Command}
use Rattle.fp_scenario_run.specs.declared.scenario.RunText.TheVariants.{Log}
use Rattle.fp_main.proofs.Dues.{due_load, spelled_asks}
use Rattle.fp_main.proofs.answer.answer.Goals as goal

pub returns-in-Ok-OfFiles-clause-unread : goal.returns-in-Ok-OfFiles-clause-unread
returns-in-Ok-OfFiles-clause-unread g c none =
    absurd (none _ (spelled_asks Log _ c.in-Ok-OfFiles.wanted _
    (subst (λ (command : Command). ReadsWords (map string_bytes c.args.words.now) (Ok command)) c.in-Ok-OfFiles.field-0-is c.in-Ok-OfFiles.ensures)))

pub returns-in-Ok-OfFiles-clause-due : goal.returns-in-Ok-OfFiles-clause-due
returns-in-Ok-OfFiles-clause-due g c =
    if_ok_then c.answer_files.result _ _ (λ due d. inl d)
    (c.answer_files.ensures Log (map string_bytes c.args.words.now)
    (subst (λ (command : Command). ReadsWords (map string_bytes c.args.words.now) (Ok command)) c.in-Ok-OfFiles.field-0-is c.in-Ok-OfFiles.ensures))

pub returns-in-Ok-Make-clause-due : goal.returns-in-Ok-Make-clause-due
returns-in-Ok-Make-clause-due g c =
    if_ok_then c.answer_load.result _ _
    (λ due d. due_load (map string_bytes c.args.words.now) _ c.in-Ok-Make.instances due
    (subst (λ (command : Command). ReadsWords (map string_bytes c.args.words.now) (Ok command)) c.in-Ok-Make.field-0-is c.in-Ok-Make.ensures) (refl, refl) d) c.answer_load.ensures
