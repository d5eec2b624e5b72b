use Rattle.std.proofs.Common.{◌≡◌, replicate}
use Rattle.fp_machines.specs.Gathered.{no_parts}
use Rattle.fp_machines.proofs.gathering.empty_table.Given as goal

abbrev pub invariant-loop-at : goal.invariant-loop-at
invariant-loop-at l = l.table.items ≡ replicate l._at no_parts
