use Rattle.std.proofs.Common.{List, map, ap, ◌∙◌}
use Rattle.fp_base.proofs.Options.{if_ok_then}
use Rattle.fp_scenario_check.specs.Keys.{Key, texts_of}
use Rattle.fp_scenario_check.proofs.Repeated.{caller_repeat}
use Rattle.fp_scenario_check.proofs.repeats.repeated_caller.Goals as goal

pub returns : goal.returns
returns c =
    if_ok_then c.first_repeat.result _ _
    (λ o r. caller_repeat c.as_slice.result.now c.args.texts.now o (ap (λ (ks : List Key). map texts_of ks) c.as_slice.ensures.value ∙ c.in_ok-keys.ensures) r) c.first_repeat.ensures
