use Rattle.std.proofs.Common.{refl, sym, ◌∙◌, ap, Some, [], ◌∷◌}
use Rattle.fp_base.proofs.Lists.{get_along}
use Rattle.fp_tables.specs.Bound.{scope_of}
use Rattle.fp_scenario.specs.declared.first_key.FirstKey.TheVariants as key
use Rattle.fp_scenario_actions.specs.Named.{event_named}
use Rattle.fp_tables.specs.Arguments.{kinds_of}
use Rattle.fp_scenario_actions.proofs.Halting.{halted, emit_kinds}
use Rattle.fp_scenario_actions.proofs.acting.emits.Goals as goal

pub returns-in-Some-clause-broken : goal.returns-in-Some-clause-broken
returns-in-Some-clause-broken c =
    let d = c.args.component.now in
    let x = c.event_at.result.now in
    let named = sym (c.in-Some.ensures ∙ ap (λ xs. event_named xs c.as_bytes.result.now) c.as_slice.ensures ∙ ap (event_named d.events) c.as_bytes.ensures.value) in
    let found = get_along c.in-Some.name x c.as_slice-in-Some-2.ensures c.event_at.ensures in
    halted c.args.tables.now c.args.instance c.args.component.now c.args.place key.Emit (scope_of c.args.bound.now) c.args.last c.args.text.now c.as_slice-in-Some.result.now (kinds_of x.formals) (kinds_of c.as_slice-in-Some-3.result.now) c.plan_formals.result
    (c.as_slice-in-Some.ensures ∙ ap (λ m. m.types) c.model.ensures) (ap kinds_of c.as_slice-in-Some-3.ensures) (emit_kinds c.args.tables.now c.args.instance c.args.component.now c.args.place c.args.text.now c.in-Some.name x named found) c.plan_formals.ensures.broken
