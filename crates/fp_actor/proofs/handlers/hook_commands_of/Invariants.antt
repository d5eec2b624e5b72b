use Rattle.std.proofs.Common.{take}
use Rattle.fp_actor.specs.Found.{FindsHookCommands}
use Rattle.fp_actor.proofs.handlers.hook_commands_of.Given as goal

abbrev pub invariant-loop-at : goal.invariant-loop-at
invariant-loop-at l = FindsHookCommands (take l.at l.handlers) l.commands
