use Rattle.std.proofs.Common.{◌≡◌, ◌++◌, map}
use Rattle.std.specs.Vec.Iter.{into_iter_items}
use Rattle.fp_cell.specs.Cells.{Standing}
use Rattle.fp_running.proofs.closing.into_histories.Given as goal

abbrev pub invariant-loop-cell : goal.invariant-loop-cell
invariant-loop-cell l =
    l.rows ++ map (λ (c : Standing). c.history) (into_iter_items l.cell-iterator) ≡ map (λ (c : Standing). c.history) l.fn.cells.items
