use Rattle.std.proofs.Common.{◌∙◌, ap}
use Rattle.std.proofs.lemmas.Result.{IfOk-weaker}
use Rattle.std.specs.Ordering.{eq_by_cmp}
use Rattle.fp_tables.specs.Lists.{apart}
use Rattle.fp_tables.specs.Found.{key_cmp}
use Rattle.fp_sound_programs.proofs.Repeating.{guards_apart}
use Rattle.fp_sound_programs.proofs.repeats.answers_differ.Goals as goal

pub returns : goal.returns
returns c =
    IfOk-weaker c.all_differ.result _ _ (λ b p. p ∙ ap (apart (eq_by_cmp key_cmp)) c.in_ok-guards.ensures ∙ guards_apart c.args.answers.now)
    c.all_differ.ensures
