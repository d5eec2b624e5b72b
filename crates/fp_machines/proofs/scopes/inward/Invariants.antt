use Rattle.std.proofs.Common.{◌≡◌, drop, List}
use Rattle.fp_tree.specs.declared.machine.BehaviorElement.{BehaviorElement}
use Rattle.fp_machine_rules.specs.declared.item.Item.{Item}
use Rattle.fp_machines.specs.Found.{AreScopes}
use Rattle.fp_machines.specs.Scopes.{inward}
use Rattle.fp_machines.proofs.scopes.inward.Given as goal

abbrev pub invariant-loop-name : goal.invariant-loop-name
invariant-loop-name l =
    (es : List BehaviorElement) (items : List Item) → AreScopes es items l.scopes → inward es items (drop l.name-index l.names) l.at ≡ inward es items l.names l.fn.from
