use Rattle.fp_plant.specs.Rows.{HasShape}
use Rattle.fp_plant.proofs.rows.empty_rows.Given as goal

abbrev pub invariant-loop-at : goal.invariant-loop-at
invariant-loop-at g l = HasShape l.rows.items l._at 0
