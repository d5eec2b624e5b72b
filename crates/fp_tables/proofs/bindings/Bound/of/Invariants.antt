use Rattle.std.proofs.Common.{◌≡◌, ℕ, List, take}
use Rattle.fp_tables.specs.Arguments.{formals_bound}
use Rattle.fp_tables.specs.Bound.{scope_of}
use Rattle.fp_tables.proofs.bindings.Bound.of.Given as goal

abbrev pub invariant-loop-formal : goal.invariant-loop-formal
invariant-loop-formal l = (name : List ℕ) → scope_of (record { kinds = l.kinds }) name ≡ formals_bound (take l.formal-index l.formals) name
