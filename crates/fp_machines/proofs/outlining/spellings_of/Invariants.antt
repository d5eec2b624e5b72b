use Rattle.std.proofs.Common.{take}
use Rattle.fp_machines.specs.Found.{FindsSpellings}
use Rattle.fp_machines.proofs.outlining.spellings_of.Given as goal

abbrev pub invariant-loop-at : goal.invariant-loop-at
invariant-loop-at l = FindsSpellings (take l.at l.elements) l.found
