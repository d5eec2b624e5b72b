use Rattle.std.proofs.Common.{take}
use Rattle.fp_actor.specs.Found.{FindsActions}
use Rattle.fp_actor.proofs.handlers.actions_of.Given as goal

abbrev pub invariant-loop-at : goal.invariant-loop-at
invariant-loop-at l = FindsActions (take l.at l.handlers) l.actions
