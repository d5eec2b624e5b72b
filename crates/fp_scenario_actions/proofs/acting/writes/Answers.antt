use Rattle.std.proofs.Common.{refl, sym, ◌∙◌, ap, Some, [], ◌∷◌, is_some}
use Rattle.fp_base.proofs.Lists.{get_along}
use Rattle.fp_tables.specs.Bound.{scope_of}
use Rattle.fp_scenario.specs.declared.first_key.FirstKey.TheVariants as key
use Rattle.fp_scenario_actions.specs.Named.{channel_named}
use Rattle.fp_scenario_actions.proofs.Halting.{halted, planned, write_kinds}
use Rattle.fp_scenario_actions.proofs.acting.writes.Goals as goal

pub returns-in-Some-clause-broken : goal.returns-in-Some-clause-broken
returns-in-Some-clause-broken c =
    let d = c.args.component.now in
    let named = sym (c.in-Some.ensures ∙ ap (λ xs. channel_named xs c.as_bytes.result.now) c.as_slice.ensures ∙ ap (channel_named d.channels) c.as_bytes.ensures.value) in
    let found = get_along c.in-Some.name c.channel_at.result.now c.as_slice-in-Some.ensures c.channel_at.ensures in
    halted c.args.tables.now c.args.instance c.args.component.now c.args.place key.Write (scope_of c.args.bound.now) c.args.last c.args.text.now c.as_slice-in-Some-2.result.now (c.channel_at.result.now.kind ∷ []) (c.channel_at.result.now.kind ∷ []) c.plan.result
    (c.as_slice-in-Some-2.ensures ∙ ap (λ m. m.types) c.model.ensures) refl (write_kinds c.args.tables.now c.args.instance c.args.component.now c.args.place c.args.text.now c.in-Some.name c.channel_at.result.now named found) c.plan.ensures.broken

pub returns-in-Some-clause-made : goal.returns-in-Some-clause-made
returns-in-Some-clause-made c =
    let d = c.args.component.now in
    let named = sym (c.in-Some.ensures ∙ ap (λ xs. channel_named xs c.as_bytes.result.now) c.as_slice.ensures ∙ ap (channel_named d.channels) c.as_bytes.ensures.value) in
    let found = get_along c.in-Some.name c.channel_at.result.now c.as_slice-in-Some.ensures c.channel_at.ensures in
    planned c.args.tables.now c.args.instance c.args.component.now c.args.place key.Write (scope_of c.args.bound.now) c.args.last c.args.text.now c.as_slice-in-Some-2.result.now (c.channel_at.result.now.kind ∷ []) (c.channel_at.result.now.kind ∷ []) _ c.end_at.result c.in-Some.name _ c.plan.result
    (c.as_slice-in-Some-2.ensures ∙ ap (λ m. m.types) c.model.ensures) refl (write_kinds c.args.tables.now c.args.instance c.args.component.now c.args.place c.args.text.now c.in-Some.name c.channel_at.result.now named found)
    refl (ap Some (sym c.end_at.ensures)) named refl (ap is_some named) refl refl refl refl c.plan.ensures.made
