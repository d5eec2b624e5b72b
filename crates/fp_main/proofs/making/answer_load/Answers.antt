use Rattle.std.proofs.Common.{refl}
use Rattle.fp_main.specs.Words.{load_words}
use Rattle.fp_scenario_run.specs.declared.scenario.RunText.TheVariants.{Counts}
use Rattle.fp_main.proofs.Dues.{load_asked, load_due}
use Rattle.fp_main.proofs.making.answer_load.Goals as goal

pub returns : goal.returns
returns g c =
    load_due c.args.instances c.in_ok-files.files c.answer_files.result c.in_ok-files.ensures
    (c.answer_files.ensures (Counts c.args.instances) load_words (refl, load_asked _ c.in_ok-from_str.ensures.ok))
