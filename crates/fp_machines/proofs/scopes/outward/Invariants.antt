use Rattle.std.proofs.Common.{◌≡◌, ◌+◌, ◌-◌, length, List}
use Rattle.fp_tree.specs.declared.machine.BehaviorElement.{BehaviorElement}
use Rattle.fp_machines.specs.Found.{AreScopes}
use Rattle.fp_machines.specs.Scopes.{outward}
use Rattle.fp_machines.proofs.scopes.outward.Given as goal

abbrev pub invariant-loop-round : goal.invariant-loop-round
invariant-loop-round l =
    (es : List BehaviorElement) → AreScopes es l.items l.scopes
    → outward l.items (length l.items + 1 - l.round) l.scope l.fn.name ≡ outward l.items (length l.items + 1) l.fn.from l.fn.name
