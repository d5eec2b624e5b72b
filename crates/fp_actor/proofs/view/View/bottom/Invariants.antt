use Rattle.std.proofs.Common.{◌≡◌, List, [], length, MatchOption}
use Rattle.fp_actor.specs.declared.level.Binding.{Binding}
use Rattle.fp_actor.specs.declared.stack.Bottom.{Bottom}
use Rattle.fp_actor.specs.Seen.{IsBottom}
use Rattle.fp_actor.proofs.view.View.bottom.Given as goal

abbrev pub invariant-loop-level : goal.invariant-loop-level
invariant-loop-level l = (bindings : List Binding) →
    ((b : Bottom) → IsBottom l.self bindings l.left b → IsBottom l.self bindings l.levels b)
    × (l.left ≡ [] → MatchOption l.lowest (l.levels ≡ []) (IsBottom l.self bindings l.levels))

abbrev pub decreases-loop-level : goal.decreases-loop-level
decreases-loop-level l = length l.left
