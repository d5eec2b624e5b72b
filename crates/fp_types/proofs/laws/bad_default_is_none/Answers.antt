use Rattle.fp_types.specs.Converting.{opened}
use Rattle.fp_types.proofs.Quiet.{no_misfit, no_bad_default}
use Rattle.fp_types.proofs.laws.bad_default_is_none.Goals as goal

pub returns-clause-misfit : goal.returns-clause-misfit
returns-clause-misfit c ws place v t w f b m = no_misfit ws place (opened v) t w f b m

pub returns-clause-default : goal.returns-clause-default
returns-clause-default c ws i place f w bad d = no_bad_default ws i place f w bad d
