use Rattle.fp_meaning.proofs.Meanings.{one_meaning}
use Rattle.fp_meaning.proofs.laws.one_meaning.Goals as goal

pub returns : goal.returns
returns c ds scope name group a b m n = one_meaning ds scope name group a b m n
