use Rattle.std.proofs.Common.{take}
use Rattle.fp_actor.specs.Found.{FindsPorts}
use Rattle.fp_actor.proofs.handlers.ports_of.Given as goal

abbrev pub invariant-loop-at : goal.invariant-loop-at
invariant-loop-at l = FindsPorts (take l.at l.handlers) l.ports
