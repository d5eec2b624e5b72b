use Rattle.std.proofs.Common.{◌≡◌, ◌++◌, take, map, List}
use Rattle.fp_tree.specs.declared.machine.BehaviorElement.{BehaviorElement}
use Rattle.fp_machine_rules.specs.declared.item.Item.{Item}
use Rattle.fp_machines.specs.Found.{AreScopes}
use Rattle.fp_machines.specs.Layout.{action_use}
use Rattle.fp_machines.proofs.using.push_actions.Given as goal

abbrev pub invariant-loop-action : goal.invariant-loop-action
invariant-loop-action l =
    (es : List BehaviorElement) (items : List Item) → AreScopes es items l.scopes
    → l.uses ≡ l.fn.uses ++ map (action_use es items l.types l.at) (take l.action-index l.actions.actions)
