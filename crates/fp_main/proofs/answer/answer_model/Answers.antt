use Rattle.std.proofs.Common.{inl, refl, subst}
use Rattle.fp_base.proofs.Options.{if_ok_then}
use Rattle.fp_gather.specs.FilesRun.{files_run}
use Rattle.fp_main.specs.Words.{Spells}
use Rattle.fp_main.specs.declared.words.Wanted.{Wanted}
use Rattle.fp_main.proofs.Dues.{as_told}
use Rattle.fp_main.proofs.answer.answer_model.Goals as goal

pub returns-in-Listing : goal.returns-in-Listing
returns-in-Listing g c told words names spelled =
    if_ok_then c.answer_check.result _ _ (λ due d. inl ((refl, refl), d))
    (c.answer_check.ensures words names (subst (λ (wanted : Wanted). Spells told words wanted names) c.in-Listing.is spelled))

pub returns-in-OfTopology : goal.returns-in-OfTopology
returns-in-OfTopology g c told words names spelled =
    if_ok_then c.answer_topology.result _ _ (λ due d. inl ((refl, refl), d))
    (c.answer_topology.ensures words names (subst (λ (wanted : Wanted). Spells told words wanted names) c.in-OfTopology.is spelled))

pub returns-in-Run : goal.returns-in-Run
returns-in-Run g c told words names spelled =
    let asked = subst (λ (wanted : Wanted). Spells told words wanted names) c.in-Run.is spelled in
    as_told words names (files_run g.F.Files.told g.F.Files.faults g.F.Files.misses c.args.files.now c.answer_run.new.files) c.args.model c.answer_run.result _ told asked.0
    (c.answer_run.ensures words names asked.1)
