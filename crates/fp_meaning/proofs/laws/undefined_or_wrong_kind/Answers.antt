use Rattle.fp_meaning.proofs.Meanings.{undefined_or_wrong_kind}
use Rattle.fp_meaning.proofs.laws.undefined_or_wrong_kind.Goals as goal

pub returns : goal.returns
returns c ds m f g u w = undefined_or_wrong_kind ds m f g u w
