use Rattle.std.proofs.Common.{◌≡◌, ◌++◌, flat_map, take}
use Rattle.fp_gather.specs.gathering.Includes.{inclusions_in_part}
use Rattle.fp_gather.proofs.gathering.including.of_parts.Given as goal

abbrev pub invariant-loop-part : goal.invariant-loop-part
invariant-loop-part l = l.found ≡ l.initial.found ++ flat_map inclusions_in_part (take l.part-index l.parts)
