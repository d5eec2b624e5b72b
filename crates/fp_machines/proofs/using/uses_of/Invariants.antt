use Rattle.std.proofs.Common.{◌≡◌, ◌++◌, drop}
use Rattle.fp_machines.specs.Layout.{uses_from}
use Rattle.fp_machines.proofs.using.uses_of.Given as goal

abbrev pub invariant-loop-at : goal.invariant-loop-at
invariant-loop-at l = l.uses ++ uses_from l.elements l.items l.types l.at (drop l.at l.elements) ≡ uses_from l.elements l.items l.types 0 l.elements
