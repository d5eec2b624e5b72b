use Rattle.std.proofs.Common.{◌≡◌, ◌++◌, take}
use Rattle.std.specs.Prelude.{flat_map}
use Rattle.fp_listing.specs.Members.{running_line}
use Rattle.fp_listing.proofs.members.push_machines.Given as goal

abbrev pub invariant-loop-running : goal.invariant-loop-running
invariant-loop-running l = l.out ≡ l.initial.out ++ flat_map (running_line l.model) (take l.running-index l.machines)
