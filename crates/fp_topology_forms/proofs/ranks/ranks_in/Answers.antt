use Rattle.fp_topology_forms.proofs.ranks.ranks_in.Goals as goal

pub returns : goal.returns
returns c source laid =
    record { components = c.in_ok-components.ensures source laid; instances = c.in_ok-instances.ensures source laid; topologies = c.in_ok-topologies.ensures source laid }
