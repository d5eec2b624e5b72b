use Rattle.std.proofs.Common.{take}
use Rattle.fp_actor.specs.Found.{FindsHookPorts}
use Rattle.fp_actor.proofs.handlers.hook_ports_of.Given as goal

abbrev pub invariant-loop-at : goal.invariant-loop-at
invariant-loop-at l = FindsHookPorts (take l.at l.handlers) l.ports
