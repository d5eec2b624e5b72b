use Rattle.fp_topology_forms.proofs.Once.{one_written}
use Rattle.fp_topology_forms.proofs.laws.one_deployment.Goals as goal

pub returns : goal.returns
returns c source v w h g = one_written source v w h g
