use Rattle.std.proofs.Common.{◌≡◌, take}
use Rattle.fp_components.specs.Resolved.{formals_of}
use Rattle.fp_components.proofs.formals.formals_of.Given as goal

abbrev pub invariant-loop-formal : goal.invariant-loop-formal
invariant-loop-formal l = l.row ≡ formals_of (take l.formal-index l.formals)
