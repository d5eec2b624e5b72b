use Rattle.std.proofs.Common.{take}
use Rattle.fp_machines.specs.Found.{FindsKeys}
use Rattle.fp_machines.proofs.firsts.first_positions.Given as goal

abbrev pub invariant-loop-at : goal.invariant-loop-at
invariant-loop-at l = FindsKeys (take l.at l.keys) l.found
