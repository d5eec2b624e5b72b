use Rattle.std.proofs.Common.{sym, ap, ◌∙◌}
use Rattle.fp_tables.specs.Arguments.{kinds_of}
use Rattle.fp_tables.specs.Bound.{scope_of}
use Rattle.fp_scenario_actions.specs.Calling.{input_named}
use Rattle.fp_scenario_actions.proofs.Called.{called_halted, called_kinds}
use Rattle.fp_scenario_actions.proofs.calling.calls.Goals as goal

pub returns-in-Ok-clause-broken : goal.returns-in-Ok-clause-broken
returns-in-Ok-clause-broken c =
    let t = c.args.tables.now in
    let x = c.in-Some-port.port.now in
    let e = c.in-Some.end in
    called_halted t (scope_of c.args.bound.now) c.args.text.now c.as_slice.result.now (kinds_of x.formals) (kinds_of c.as_slice-in-Ok.result.now) c.plan_formals.result
    (c.as_slice.ensures ∙ ap (λ m. m.types) c.model.ensures) (ap kinds_of c.as_slice-in-Ok.ensures)
    (called_kinds t (scope_of c.args.bound.now) c.args.text.now e x (sym (c.in-Some.ensures ∙ ap (input_named t) c.as_str.ensures)) (sym c.in-Some-port.ensures)) c.plan_formals.ensures.broken
