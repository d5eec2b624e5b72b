use Rattle.std.proofs.Common.{sym, subst, flat_map}
use Rattle.fp_tables.specs.declared.program.Handler.{Handler}
use Rattle.fp_scenario_check.specs.Planned.{Pairwise, PlansHandler, at_each, same_handler}
use Rattle.fp_scenario_check.specs.Faults.{InItem, TextFault, counts}
use Rattle.fp_scenario_check.specs.Keys.{AreOwnedBy}
use Rattle.fp_scenario_check.proofs.Refusals.{no_repeat, handlers_repeated, handlers_stopped}
use Rattle.fp_scenario_check.proofs.Stopping.{weaker}
use Rattle.fp_scenario_check.proofs.checking.checked_handlers.Goals as goal

pub returns-in-Some-clause-broken : goal.returns-in-Some-clause-broken
returns-in-Some-clause-broken c =
    handlers_repeated c.args.tables.now c.args.scenario.now c.as_slice-texts.result.now c.in_ok-repeated.repeated c.in-Some.at c.stop_at_item.result c.as_slice-texts.ensures c.in-Some.is c.in_ok-repeated.ensures c.stop_at_item.ensures

pub returns-clause-broken : goal.returns-clause-broken
returns-clause-broken c =
    let t = c.args.tables.now in
    let s = c.args.scenario.now in
    let texts = c.as_slice-texts.result.now in
    handlers_stopped t s texts c.in-Err.stop c.stop_under_key.result c.as_slice-texts.ensures
    (weaker _ (InItem (TextFault t s) texts) c.in-Err.stop (λ rule path h. h s (subst (λ xs. AreOwnedBy t xs c.in_ok-owned-in-None.owned) c.as_slice-texts.ensures c.in_ok-owned-in-None.ensures)) c.in-Err.ensures.broken) c.stop_under_key.ensures

pub returns-in-Ok-clause-differ : goal.returns-in-Ok-clause-differ
returns-in-Ok-clause-differ c = no_repeat same_handler c.as_slice-texts.result.now c.args.scenario.now.handlers c.in_ok-repeated.repeated c.as_slice-texts.ensures c.in-None.is c.in_ok-repeated.ensures

pub returns-in-Ok-clause-planned : goal.returns-in-Ok-clause-planned
returns-in-Ok-clause-planned c =
    let t = c.args.tables.now in
    let s = c.args.scenario.now in
    subst (λ xs. Pairwise (PlansHandler t) (flat_map (at_each t s) xs) c.in-Ok.handled.handlers) c.as_slice-texts.ensures
    (c.in-Ok.ensures.planned s (subst (λ xs. AreOwnedBy t xs c.in_ok-owned-in-None.owned) c.as_slice-texts.ensures c.in_ok-owned-in-None.ensures))
