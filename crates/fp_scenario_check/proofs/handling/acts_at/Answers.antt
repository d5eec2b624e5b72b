use Rattle.fp_tables.specs.Bound.{scope_of}
use Rattle.fp_scenario_check.proofs.AtPlace.{lacking, halted}
use Rattle.fp_scenario_check.proofs.handling.acts_at.Goals as goal

pub returns-then-lacks-clause-broken : goal.returns-then-lacks-clause-broken
returns-then-lacks-clause-broken c =
    lacking c.args.tables.now c.args.text.now c.args.instance c.args.component.now c.args.place (scope_of c.args.bound) c.as_slice-texts.result.now c.lacks_return-lacks.result c.stop_at_list.result c.as_slice-texts.ensures c.if-lacks.true
    c.lacks_return-lacks.ensures c.stop_at_list.ensures

pub returns-in-Err-clause-broken : goal.returns-in-Err-clause-broken
returns-in-Err-clause-broken c =
    halted c.args.tables.now c.args.text.now c.args.instance c.args.component.now c.args.place (scope_of c.args.bound) c.as_slice-texts.result.now c.in-Err.halt c.stop_in_list.result c.as_slice-texts.ensures c.in-Err.ensures.broken
    c.stop_in_list.ensures
