use Rattle.std.proofs.Common.{subst}
use Rattle.fp_scenario_check.specs.Planned.{same_caller}
use Rattle.fp_scenario_check.proofs.Refusals.{no_repeat, callers_repeated, callers_stopped}
use Rattle.fp_scenario_check.proofs.checking.checked_callers.Goals as goal

pub returns-in-Some-clause-broken : goal.returns-in-Some-clause-broken
returns-in-Some-clause-broken c =
    callers_repeated c.args.tables.now c.args.scenario.now c.as_slice-texts.result.now c.in_ok-repeated.repeated c.in-Some.at c.stop_at_item.result c.as_slice-texts.ensures c.in-Some.is c.in_ok-repeated.ensures c.stop_at_item.ensures

pub returns-in-Err-clause-broken : goal.returns-in-Err-clause-broken
returns-in-Err-clause-broken c =
    callers_stopped c.args.tables.now c.args.scenario.now c.as_slice-texts.result.now c.in-Err.stop c.stop_under_key.result c.as_slice-texts.ensures c.in-Err.ensures.broken c.stop_under_key.ensures

pub returns-in-Ok-clause-differ : goal.returns-in-Ok-clause-differ
returns-in-Ok-clause-differ c = no_repeat same_caller c.as_slice-texts.result.now c.args.scenario.now.callers c.in_ok-repeated.repeated c.as_slice-texts.ensures c.in-None.is c.in_ok-repeated.ensures
