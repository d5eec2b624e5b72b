use Rattle.std.proofs.Common.{◌≡◌, [], ◌∙◌}
use Rattle.fp_base.specs.declared.rule.Rule.TheVariants.{UnknownName}
use Rattle.fp_scenario_check.specs.Faults.{IdleFault}
use Rattle.fp_scenario_check.proofs.AtAll.{HasFault, idle_refused, refused_at_one, planned_at_each, not_idle}
use Rattle.fp_scenario_check.proofs.Stopping.{passed}
use Rattle.fp_scenario_check.proofs.handlers.handlers_of.Goals as goal

pub returns-in_err-check_idle-clause-broken : goal.returns-in_err-check_idle-clause-broken
returns-in_err-check_idle-clause-broken c =
    let t = c.args.tables.now in
    let owned = c.args.owned.now in
    let h = c.args.text.now in
    passed (λ rule path. (rule ≡ UnknownName) × (path ≡ []) × IdleFault t h c.as_slice.result.now) (HasFault t owned h) _ _
    (idle_refused t owned h c.as_slice.result.now (λ scenario owns. c.as_slice.ensures.value ∙ c.in_ok-instances.ensures scenario owns)) c.from_residual-in_err-check_idle.ensures.1 c.in_err-check_idle.ensures.broken

pub returns-clause-planned : goal.returns-clause-planned
returns-clause-planned c =
    planned_at_each c.args.tables.now c.args.owned.now c.args.text.now c.as_slice-2.result.now (λ scenario owns. c.as_slice-2.ensures.value ∙ c.in_ok-instances.ensures scenario owns) c.handler_at_each.result c.handler_at_each.ensures.planned

pub returns-clause-known : goal.returns-clause-known
returns-clause-known c =
    not_idle c.args.tables.now c.args.owned.now c.args.text.now c.as_slice.result.now (λ scenario owns. c.as_slice.ensures.value ∙ c.in_ok-instances.ensures scenario owns) c.in_ok-check_idle.ensures.known c.handler_at_each.result

pub returns-clause-broken : goal.returns-clause-broken
returns-clause-broken c =
    refused_at_one c.args.tables.now c.args.owned.now c.args.text.now c.as_slice-2.result.now (λ scenario owns. c.as_slice-2.ensures.value ∙ c.in_ok-instances.ensures scenario owns) c.handler_at_each.result c.handler_at_each.ensures.broken
