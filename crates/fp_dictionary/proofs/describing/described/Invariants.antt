use Rattle.std.proofs.Common.{◌≡◌, take}
use Rattle.std.specs.Prelude.{filter}
use Rattle.fp_dictionary.specs.Marks.{describes}
use Rattle.fp_dictionary.proofs.describing.described.Given as goal

abbrev pub invariant-loop-at : goal.invariant-loop-at
invariant-loop-at l = l.found ≡ filter (describes l.types) (take l.at-index l.positions)
