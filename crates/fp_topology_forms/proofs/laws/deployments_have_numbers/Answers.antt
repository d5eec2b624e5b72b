use Rattle.fp_topology_forms.proofs.Numbers.{deployment_numbered}
use Rattle.fp_topology_forms.proofs.laws.deployments_have_numbers.Goals as goal

pub returns : goal.returns
returns c source d valued unbroken are =
    deployment_numbered source valued (λ k x at. c.unbroken_part_numbers_stand.ensures source unbroken k x at) d are
