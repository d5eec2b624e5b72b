use Rattle.std.proofs.Common.{◌≡◌, ◌++◌, take}
use Rattle.std.specs.Prelude.{flat_map}
use Rattle.fp_tables.specs.declared.component.Command.{Command}
use Rattle.fp_dictionary.specs.Used.{kinds_of_formals}
use Rattle.fp_dictionary.proofs.listing.push_commands.Given as goal

abbrev pub invariant-loop-command : goal.invariant-loop-command
invariant-loop-command l = l.kinds ≡ l.initial.kinds ++ flat_map (λ (x : Command). kinds_of_formals x.formals) (take l.command-index l.commands)
