use Rattle.fp_topology_forms.proofs.Kinded.{instances_qualified, topologies_qualified}
use Rattle.fp_topology_forms.proofs.names_laws.deployment_names_are_qualified.Goals as goal

pub returns-clause-instances : goal.returns-clause-instances
returns-clause-instances c source d named are = instances_qualified source d named are

pub returns-clause-topologies : goal.returns-clause-topologies
returns-clause-topologies c source d named are = topologies_qualified source d named are
