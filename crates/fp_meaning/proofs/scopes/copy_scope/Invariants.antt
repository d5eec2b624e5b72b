use Rattle.std.proofs.Common.{◌≡◌, take}
use Rattle.fp_meaning.proofs.scopes.copy_scope.Given as goal

abbrev pub invariant-loop-text : goal.invariant-loop-text
invariant-loop-text l = l.row ≡ take l.text-index l.scope
