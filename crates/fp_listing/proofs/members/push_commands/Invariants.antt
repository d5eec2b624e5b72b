use Rattle.std.proofs.Common.{◌≡◌, ◌++◌, take}
use Rattle.std.specs.Prelude.{flat_map}
use Rattle.fp_listing.specs.Members.{command_line}
use Rattle.fp_listing.proofs.members.push_commands.Given as goal

abbrev pub invariant-loop-command : goal.invariant-loop-command
invariant-loop-command l = l.out ≡ l.initial.out ++ flat_map (command_line l.model) (take l.command-index l.commands)
