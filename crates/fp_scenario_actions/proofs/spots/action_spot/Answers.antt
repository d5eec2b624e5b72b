use Rattle.std.proofs.Common.{sym, ap, ◌∙◌}
use Rattle.fp_scenario_actions.specs.Named.{running_named}
use Rattle.fp_scenario_actions.specs.Spots.{action_at}
use Rattle.fp_scenario_actions.proofs.Parting.{action_there, action_absent, action_undotted}
use Rattle.fp_scenario_actions.proofs.spots.action_spot.Goals as goal

pub returns-in-Some-running_named : goal.returns-in-Some-running_named
returns-in-Some-running_named c =
    let d = c.args.component.now in
    action_there c.args.tables.now d c.args.name.now c.in-Some.at c.in-Some-running_named.running c.action_at.result c.in-Some.ensures.value
    (c.in-Some-running_named.ensures ∙ ap (λ xs. running_named xs c.left_of.result.now) c.as_slice.ensures ∙ ap (running_named d.machines) c.left_of.ensures)
    (c.action_at.ensures ∙ ap (λ action. action_at c.args.tables.now d action c.in-Some-running_named.running) c.right_of.ensures)

pub returns-in-None-running_named : goal.returns-in-None-running_named
returns-in-None-running_named c =
    let d = c.args.component.now in
    action_absent c.args.tables.now d c.args.name.now c.in-Some.at c.in-Some.ensures.value
    (c.in-None-running_named.ensures ∙ ap (λ xs. running_named xs c.left_of.result.now) c.as_slice.ensures ∙ ap (running_named d.machines) c.left_of.ensures)

pub returns-in-None : goal.returns-in-None
returns-in-None c = action_undotted c.args.tables.now c.args.component.now c.args.name.now c.in-None.ensures.value
