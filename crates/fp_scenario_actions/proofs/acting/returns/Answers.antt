use Rattle.std.proofs.Common.{refl, sym, ◌∙◌, ap, Some, [], ◌∷◌, is_some}
use Rattle.std.specs.Prelude.{option_map}
use Rattle.fp_base.proofs.Bools.{join}
use Rattle.fp_tables.specs.Bound.{scope_of}
use Rattle.fp_scenario.specs.declared.first_key.FirstKey.TheVariants as key
use Rattle.fp_scenario_actions.proofs.Halting.{halted, planned}
use Rattle.fp_scenario_actions.proofs.acting.returns.Goals as goal

pub returns-then-last-clause-broken : goal.returns-then-last-clause-broken
returns-then-last-clause-broken c =
    let wants = sym c.requires.wanted ∙ c.in-Some.is in
    halted c.args.tables.now c.args.instance c.args.component.now c.args.place key.Return (scope_of c.args.bound.now) c.args.last c.args.text.now c.as_slice.result.now (c.in-Some.kind ∷ []) (c.in-Some.kind ∷ []) c.plan.result
    (c.as_slice.ensures ∙ ap (λ m. m.types) c.model.ensures) refl (ap (option_map (λ k. k ∷ [])) wants) c.plan.ensures.broken

pub returns-then-last-clause-made : goal.returns-then-last-clause-made
returns-then-last-clause-made c =
    let wants = sym c.requires.wanted ∙ c.in-Some.is in
    planned c.args.tables.now c.args.instance c.args.component.now c.args.place key.Return (scope_of c.args.bound.now) c.args.last c.args.text.now c.as_slice.result.now (c.in-Some.kind ∷ []) (c.in-Some.kind ∷ []) _ c.end_at.result 0 _ c.plan.result
    (c.as_slice.ensures ∙ ap (λ m. m.types) c.model.ensures) refl (ap (option_map (λ k. k ∷ [])) wants)
    refl (ap Some (sym c.end_at.ensures)) refl refl refl refl refl (join _ _ (ap is_some wants) c.if-last.true) refl c.plan.ensures.made
