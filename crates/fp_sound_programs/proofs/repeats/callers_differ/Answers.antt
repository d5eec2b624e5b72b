use Rattle.std.proofs.Common.{◌∙◌, ap}
use Rattle.std.proofs.lemmas.Result.{IfOk-weaker}
use Rattle.fp_tables.specs.Names.{texts_differ}
use Rattle.fp_tables.proofs.Differing.{differ_texts}
use Rattle.fp_sound_programs.proofs.repeats.callers_differ.Goals as goal

pub returns : goal.returns
returns c = IfOk-weaker c.all_differ.result _ _ (λ b p. p ∙ differ_texts c.in_ok-names.names.items ∙ ap texts_differ c.in_ok-names.ensures) c.all_differ.ensures
