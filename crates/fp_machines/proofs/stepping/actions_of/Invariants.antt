use Rattle.std.proofs.Common.{◌≡◌, take, List}
use Rattle.std.specs.List.{filter_map}
use Rattle.fp_tree.specs.declared.machine.BehaviorElement.{BehaviorElement}
use Rattle.fp_machines.specs.Made.{action_meant}
use Rattle.fp_machines.specs.Named.{AreNames}
use Rattle.fp_machines.proofs.stepping.actions_of.Given as goal

abbrev pub invariant-loop-action : goal.invariant-loop-action
invariant-loop-action l = (es : List BehaviorElement) → AreNames es l.names → l.row ≡ filter_map (action_meant es) (take l.action-index l.actions.actions)
