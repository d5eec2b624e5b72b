use Rattle.fp_source_parts.proofs.MachineLeast.{machines_least}
use Rattle.fp_source_parts.proofs.machine_laws.machines_are_least.Goals as goal

pub returns : goal.returns
returns c source types first given least = machines_least c.one_default.ensures source types first given least
