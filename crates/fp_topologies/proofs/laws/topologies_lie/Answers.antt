use Rattle.fp_topologies.proofs.Lying.{all_lie}
use Rattle.fp_topologies.proofs.laws.topologies_lie.Goals as goal

pub returns : goal.returns
returns c m ds ts rs have lie are wires = all_lie m ds ts rs have lie are wires
