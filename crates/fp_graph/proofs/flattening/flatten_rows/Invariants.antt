use Rattle.std.proofs.Common.{◌≡◌, ◌++◌, length, take, drop}
use Rattle.fp_graph.specs.Rows.{stretches_from, in_one}
use Rattle.fp_graph.proofs.flattening.flatten_rows.Given as goal

abbrev pub invariant-loop-row : goal.invariant-loop-row
invariant-loop-row l =
    (l.flat.targets ≡ in_one (take l.row-index l.rows))
    × (l.flat.stretches ++ stretches_from (length l.flat.targets) (drop l.row-index l.rows) ≡ stretches_from 0 l.rows)
