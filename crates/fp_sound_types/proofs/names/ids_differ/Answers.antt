use Rattle.std.proofs.Common.{◌∙◌, ap, map}
use Rattle.std.proofs.lemmas.Result.{IfOk-weaker}
use Rattle.fp_tables.specs.Names.{numbers_differ}
use Rattle.fp_sound_types.proofs.names.ids_differ.Goals as goal

pub returns : goal.returns
returns g c =
    IfOk-weaker c.numbers_differ.result _ _ (λ b p. p ∙ ap numbers_differ (c.in_ok-numbers.ensures ∙ ap (map g.T.Numbered.number_of) c.as_slice.ensures)) c.numbers_differ.ensures
