use Rattle.fp_topology_forms.proofs.Kinded.{instances_differ, topologies_differ}
use Rattle.fp_topology_forms.proofs.names_laws.deployment_names_differ.Goals as goal

pub returns-clause-instances : goal.returns-clause-instances
returns-clause-instances c source d once named are = instances_differ source d named are once

pub returns-clause-topologies : goal.returns-clause-topologies
returns-clause-topologies c source d once named are = topologies_differ source d named are once
