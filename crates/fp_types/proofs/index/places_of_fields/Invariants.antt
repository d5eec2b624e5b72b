use Rattle.std.proofs.Common.{take}
use Rattle.fp_types.specs.Index.{FindsFields}
use Rattle.fp_types.proofs.index.places_of_fields.Given as goal

abbrev pub invariant-loop-at : goal.invariant-loop-at
invariant-loop-at l = FindsFields (take l.at l.fields) l.places
