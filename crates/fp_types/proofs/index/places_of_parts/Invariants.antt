use Rattle.std.proofs.Common.{take}
use Rattle.fp_types.specs.Index.{FindsParts}
use Rattle.fp_types.proofs.index.places_of_parts.Given as goal

abbrev pub invariant-loop-at : goal.invariant-loop-at
invariant-loop-at l = FindsParts (take l.at l.parts) l.places
