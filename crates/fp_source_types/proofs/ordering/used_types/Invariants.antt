use Rattle.std.proofs.Common.{◌≡◌, map, take}
use Rattle.fp_source_types.specs.Used.{used_by}
use Rattle.fp_source_types.proofs.ordering.used_types.Given as goal

abbrev pub invariant-loop-written : goal.invariant-loop-written
invariant-loop-written l = l.rows.items ≡ map used_by (take l.written-index l.types)
