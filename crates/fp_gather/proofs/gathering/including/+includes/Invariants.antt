use Rattle.std.proofs.Common.{◌≡◌, ◌++◌, flat_map, take}
use Rattle.fp_gather.specs.gathering.Includes.{inclusions_within}
use Rattle.fp_gather.proofs.gathering.including.+includes.Given as goal

abbrev pub invariant-of_members-loop-member : goal.invariant-of_members-loop-member
invariant-of_members-loop-member l = l.found ≡ l.initial.found ++ flat_map inclusions_within (take l.member-index l.members)
