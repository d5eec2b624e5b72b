use Rattle.std.proofs.Common.{refl, sym, ◌∙◌, ap, Some, [], ◌∷◌, is_some}
use Rattle.std.specs.Prelude.{option_map, option_and_then}
use Rattle.fp_tables.specs.Bound.{scope_of}
use Rattle.fp_scenario.specs.declared.first_key.FirstKey.TheVariants as key
use Rattle.fp_scenario_actions.specs.Acting.{end_at, wire_at}
use Rattle.fp_scenario_actions.proofs.Halting.{planned}
use Rattle.fp_scenario_actions.proofs.acting.responds.Goals as goal

pub returns-in-Ok-clause-made : goal.returns-in-Ok-clause-made
returns-in-Ok-clause-made c =
    let t = c.args.tables.now in
    let found = sym c.in-Some.ensures in
    let subject = ap (option_map (λ p. end_at c.args.instance p 0)) found in
    planned t c.args.instance c.args.component.now c.args.place key.Respond (scope_of c.args.bound.now) c.args.last c.args.text.now c.as_slice.result.now [] [] _ c.end_at.result 0 _ c.plan.result
    (c.as_slice.ensures ∙ ap (λ m. m.types) c.model.ensures) refl refl refl (subject ∙ ap Some (sym c.end_at.ensures)) refl (ap Some c.in-Ok.ensures) refl
    (ap (λ o. is_some (option_and_then (wire_at t) o)) subject ∙ ap is_some (sym c.in-Some-wire.ensures)) (sym c.is_command-allowed.ensures ∙ c.if-not-allowed.false) refl refl c.plan.ensures.made
