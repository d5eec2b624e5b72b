use Rattle.std.proofs.Common.{◌≡◌, take}
use Rattle.fp_types.proofs.giving.copy_constants.Given as goal

abbrev pub invariant-loop-constant : goal.invariant-loop-constant
invariant-loop-constant l = l.row ≡ take l.constant-index l.constants
