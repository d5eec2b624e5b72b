use Rattle.std.proofs.Common.{◌≡◌, ◌++◌, take}
use Rattle.std.specs.Prelude.{flat_map}
use Rattle.std.specs.List.{enumerate_from}
use Rattle.fp_listing.specs.Members.{param_line}
use Rattle.fp_listing.proofs.members.push_params.Given as goal

abbrev pub invariant-loop-at : goal.invariant-loop-at
invariant-loop-at l = l.out ≡ l.initial.out ++ flat_map (param_line l.model l.commands) (take l.at (enumerate_from 0 l.params))
