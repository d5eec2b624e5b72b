use Rattle.std.proofs.Common.{refl}
use Rattle.fp_consts.proofs.Opaque.{never_opaque}
use Rattle.fp_consts.proofs.laws.never_opaque.Goals as goal

pub returns : goal.returns
returns c source scope s has = never_opaque has refl
