use Rattle.std.proofs.Common.{◌≡◌, ◌++◌, map, take}
use Rattle.fp_base.specs.Rendered.{joined}
use Rattle.fp_logtext.specs.Names.{or_nothing, action_of}
use Rattle.fp_logtext.proofs.going.push_actions.Given as goal

abbrev pub invariant-loop-at : goal.invariant-loop-at
invariant-loop-at l = l.log ≡ l.initial.log ++ joined (map (λ a. or_nothing (action_of l.machine a)) (take l.at l.actions))
