use Rattle.std.proofs.Common.{refl}
use Rattle.std.proofs.lemmas.Result.{IfOk-weaker, IfErr-weaker, on_ok_weaker}
use Rattle.fp_scenario_run.proofs.Spelling.{none_broken, text_refused, scenario_refused, refused_by}
use Rattle.fp_scenario_run.proofs.planning.program_of.Goals as goal

pub returns-in_err-scenario-clause-broken : goal.returns-in_err-scenario-clause-broken
returns-in_err-scenario-clause-broken c =
    refused_by c.args.tables.now c.args.tables.now c.args.text.now _ _ refl c.from_residual.ensures.1 (text_refused c.args.tables.now c.args.text.now _ c.in_err-scenario.ensures.broken)

pub returns-clause-planned : goal.returns-clause-planned
returns-clause-planned c = IfOk-weaker c.check_scenario.result _ _ (λ program planned. (c.in_ok-scenario.scenario, c.in_ok-scenario.ensures.spelled, planned)) c.check_scenario.ensures.planned

pub returns-clause-unbroken : goal.returns-clause-unbroken
returns-clause-unbroken c =
    on_ok_weaker c.check_scenario.result
    (λ nothing rule path. none_broken c.args.tables.now c.args.text.now c.in_ok-scenario.scenario c.value_spells_one_scenario.ensures c.in_ok-scenario.ensures.spelled c.in_ok-scenario.ensures.whole nothing rule path)
    c.check_scenario.ensures.unbroken

pub returns-clause-broken : goal.returns-clause-broken
returns-clause-broken c =
    IfErr-weaker c.check_scenario.result _ _ (λ stop h. scenario_refused c.args.tables.now c.args.text.now c.in_ok-scenario.scenario stop c.in_ok-scenario.ensures.spelled c.in_ok-scenario.ensures.whole h) c.check_scenario.ensures.broken
