use Rattle.fp_types.specs.Converting.{opened}
use Rattle.fp_types.proofs.Through.{reached_by_kind}
use Rattle.fp_types.proofs.misfits.misfit.Goals as goal

pub returns : goal.returns
returns c = c.misfit_at.ensures (reached_by_kind c.args.types.now c.args.to (opened c.args.value.now))
