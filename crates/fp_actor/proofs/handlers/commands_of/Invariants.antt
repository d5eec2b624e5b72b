use Rattle.std.proofs.Common.{take}
use Rattle.fp_actor.specs.Found.{FindsCommands}
use Rattle.fp_actor.proofs.handlers.commands_of.Given as goal

abbrev pub invariant-loop-at : goal.invariant-loop-at
invariant-loop-at l = FindsCommands (take l.at l.handlers) l.commands
