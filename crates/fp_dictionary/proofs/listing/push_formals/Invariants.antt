use Rattle.std.proofs.Common.{◌≡◌, ◌++◌, take}
use Rattle.fp_dictionary.specs.Used.{kinds_of_formals}
use Rattle.fp_dictionary.proofs.listing.push_formals.Given as goal

abbrev pub invariant-loop-formal : goal.invariant-loop-formal
invariant-loop-formal l = l.kinds ≡ l.initial.kinds ++ kinds_of_formals (take l.formal-index l.formals)
