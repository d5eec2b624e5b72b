use Rattle.std.proofs.Common.{◌≡◌, List, Option, None, length, MatchOption}
use Rattle.fp_events.specs.Due.{first_action}
use Rattle.fp_events.specs.Follows.{doing}
use Rattle.fp_actor.specs.declared.level.Binding.{Binding}
use Rattle.fp_actor.specs.declared.stack.First.{First}
use Rattle.fp_actor.specs.Seen.{frames, IsFirst}
use Rattle.fp_actor.proofs.view.View.first.Given as goal

abbrev pub invariant-loop-level : goal.invariant-loop-level
invariant-loop-level l =
    (bindings : List Binding) (o : Option First) →
    MatchOption o (first_action (doing (frames l.self bindings l.left)) ≡ None) (IsFirst l.self bindings l.left) →
    MatchOption o (first_action (doing (frames l.self bindings l.fn.levels)) ≡ None) (IsFirst l.self bindings l.fn.levels)

abbrev pub decreases-loop-level : goal.decreases-loop-level
decreases-loop-level l = length l.left
