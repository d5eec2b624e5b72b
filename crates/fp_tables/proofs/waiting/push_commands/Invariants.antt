use Rattle.std.proofs.Common.{◌≡◌, ◌++◌, take}
use Rattle.std.specs.Prelude.{flat_map}
use Rattle.fp_tables.specs.SoundPrograms.{priority_of}
use Rattle.fp_tables.specs.declared.component.Command.{Command}
use Rattle.fp_tables.proofs.waiting.push_commands.Given as goal

abbrev pub invariant-loop-command : goal.invariant-loop-command
invariant-loop-command l = l.priorities.items ≡ l.initial.priorities.items ++ flat_map (λ (command : Command). priority_of command.way) (take l.command-index l.commands)
