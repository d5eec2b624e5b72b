use Rattle.std.proofs.Common.{refl}
use Rattle.fp_components.proofs.machines.running_of.Goals as goal

pub returns : goal.returns
returns c whole = record { name = c.in_ok-name.ensures; machine = refl; way = c.later.ensures whole }
