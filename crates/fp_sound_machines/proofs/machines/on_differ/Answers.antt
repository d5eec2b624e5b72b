use Rattle.std.proofs.Common.{◌∙◌, ap}
use Rattle.std.proofs.lemmas.Result.{IfOk-weaker}
use Rattle.fp_tables.specs.Names.{numbers_differ}
use Rattle.fp_sound_machines.proofs.machines.on_differ.Goals as goal

pub returns : goal.returns
returns c = IfOk-weaker c.numbers_differ.result _ _ (λ b p. p ∙ ap numbers_differ c.in_ok-signals.ensures) c.numbers_differ.ensures
