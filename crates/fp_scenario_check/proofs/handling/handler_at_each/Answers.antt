use Rattle.std.proofs.Common.{◌≡◌, ℕ, Some, get_or, slice_get, refl}
use Rattle.fp_base.proofs.Lists.{get_at}
use Rattle.fp_tables.specs.declared.program.Handler.{Handler}
use Rattle.fp_scenario_check.specs.Planned.{PlansHandler}
use Rattle.fp_scenario_check.specs.Faults.{HandlerFault, FaultAtOne}
use Rattle.fp_scenario_check.proofs.Pairing.{beside_more, beside_whole, beside_mapped}
use Rattle.fp_scenario_check.proofs.AtEach.{at_one}
use Rattle.fp_scenario_check.proofs.Stopping.{passed}
use Rattle.fp_scenario_check.proofs.handling.handler_at_each.Goals as goal

pub loop-instance-preserved : goal.loop-instance-preserved
loop-instance-preserved c =
    let x = get_or c.args.instances.now c.loop-instance.instance-index 0 in
    beside_more (λ (i : ℕ) (h : Handler). PlansHandler c.args.tables.now (c.args.text.now, i) h) c.args.instances.now c.loop-instance.instance-index x 0 c.loop-instance.row c.push.new.self c.in_ok-handler.handler c.loop-instance-test.true refl
    c.loop-instance.invariant c.in_ok-handler.ensures.planned c.in_ok-push.ensures.ok

pub returns-in_err-handler-clause-broken : goal.returns-in_err-handler-clause-broken
returns-in_err-handler-clause-broken c =
    let instances = c.args.instances.now in
    let n = c.loop-instance.instance-index in
    let i = get_or instances n 0 in
    let here : slice_get instances n ≡ Some i = get_at instances n i 0 c.loop-instance-test.true refl in
    passed (HandlerFault c.args.tables.now c.args.text.now i) (FaultAtOne c.args.tables.now c.args.text.now instances) _ _ (λ rule path p. (n, i, here, p)) c.from_residual.ensures.1 c.in_err-handler.ensures.broken

pub returns-clause-planned : goal.returns-clause-planned
returns-clause-planned c =
    beside_mapped (PlansHandler c.args.tables.now) (at_one c.args.text.now) c.args.instances.now c.loop-instance.row
    (beside_whole (λ (i : ℕ) (h : Handler). PlansHandler c.args.tables.now (c.args.text.now, i) h) c.args.instances.now c.loop-instance.instance-index c.loop-instance.row c.loop-instance-test.false c.loop-instance.invariant)
