use Rattle.fp_meaning.proofs.Meanings.{one_scope}
use Rattle.fp_meaning.proofs.laws.one_scope.Goals as goal

pub returns : goal.returns
returns c ds scope group first a b s t = one_scope ds scope group first a b s t
