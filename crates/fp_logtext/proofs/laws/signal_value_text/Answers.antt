use Rattle.std.proofs.Common.{refl}
use Rattle.std.specs.Fmt.{digits}
use Rattle.fp_logtext.proofs.laws.signal_value_text.Goals as goal

pub returns : goal.returns
unfolding digits
returns c = refl
