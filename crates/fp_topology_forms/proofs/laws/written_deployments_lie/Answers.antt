use Rattle.fp_topology_forms.proofs.Below.{deployment_lies}
use Rattle.fp_topology_forms.proofs.laws.written_deployments_lie.Goals as goal

pub returns : goal.returns
returns c source d are = deployment_lies source d are
