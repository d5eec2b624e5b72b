use Rattle.fp_machines.specs.Made.{action_meant}
use Rattle.fp_machines.proofs.Kept.{kept_step}
use Rattle.fp_machines.proofs.stepping.actions_of.Goals as goal

pub loop-action-preserved : goal.loop-action-preserved
loop-action-preserved c = λ es a.
    kept_step (action_meant es) c.args.actions.now.actions c.as_slice-action-items.result.now c.loop-action.action-index c.action-item.result _ _
    c.as_slice-action-items.ensures c.loop-action-test.true c.action-item.is (c.loop-action.invariant es a) (c.in_ok-push_action.ensures es a)
