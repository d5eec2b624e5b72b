use Rattle.std.proofs.Common.{refl, sym, ◌∙◌, ap, Some, [], ◌∷◌}
use Rattle.fp_base.proofs.Lists.{get_along}
use Rattle.fp_tables.specs.Arguments.{kinds_of}
use Rattle.fp_tables.specs.Bound.{scope_of}
use Rattle.fp_scenario_actions.specs.Named.{command_named}
use Rattle.fp_scenario_actions.proofs.Halting.{component_short, sent_halted, command_found, command_takes}
use Rattle.fp_scenario_actions.proofs.Narrow.{are_short}
use Rattle.fp_scenario_actions.proofs.acting.sent.Goals as goal

pub command_named-requires : goal.command_named-requires
command_named-requires c =
    let d = c.in-Some.component.now in
    let found = sym c.in-Some.ensures in
    rw c.as_slice.ensures ((are_short d (component_short c.args.tables.now.model c.args.end.instance d c.requires found)).commands)

pub returns-in-Some-command_named-clause-broken : goal.returns-in-Some-command_named-clause-broken
returns-in-Some-command_named-clause-broken c =
    let t = c.args.tables.now in
    let d = c.in-Some.component.now in
    let x = c.command_at.result.now in
    let there = sym c.in-Some.ensures in
    let named = sym (c.in-Some-command_named.ensures ∙ ap (λ xs. command_named xs c.as_bytes.result.now) c.as_slice.ensures ∙ ap (command_named d.commands) c.as_bytes.ensures.value) in
    let found = get_along c.in-Some-command_named.name x c.as_slice-in-Some-command_named-2.ensures c.command_at.ensures in
    sent_halted t (scope_of c.args.bound.now) c.args.end c.args.text.now c.as_slice-in-Some-command_named.result.now c.in-Some-command_named.name (kinds_of x.formals) (kinds_of c.as_slice-in-Some-command_named-3.result.now) c.plan_formals.result
    (c.as_slice-in-Some-command_named.ensures ∙ ap (λ m. m.types) c.model.ensures) (ap kinds_of c.as_slice-in-Some-command_named-3.ensures)
    (command_found t c.args.end c.args.text.now.name d c.in-Some-command_named.name there named) (command_takes t c.args.end d c.in-Some-command_named.name x there found) c.plan_formals.ensures.broken
