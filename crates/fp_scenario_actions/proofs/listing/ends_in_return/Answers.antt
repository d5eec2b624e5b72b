use Rattle.std.proofs.Common.{refl, ◌∙◌}
use Rattle.fp_scenario_actions.proofs.Ending.{last_is}
use Rattle.fp_scenario_actions.proofs.listing.ends_in_return.Goals as goal

pub returns-in-Some : goal.returns-in-Some
returns-in-Some c = c.is_return.ensures ∙ last_is c.args.texts.now _ c.in-Some.text.now refl c.in-Some.ensures.value
