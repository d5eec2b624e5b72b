use Rattle.std.proofs.Common.{◌∙◌}
use Rattle.std.specs.Ordering.{ordering_then}
use Rattle.fp_topologies.specs.Ordered.{instance_name, name_cmp, port_name}
use Rattle.fp_topologies.proofs.Ordering.{ends_regroup}
use Rattle.fp_topologies.proofs.sorting.link_cmp.Goals as goal

pub returns : goal.returns
returns c =
    let cs = c.args.components.now in
    let is = c.args.instances.now in
    let a = c.args.one.now in
    let b = c.args.other.now in
    c.then.ensures ∙ (λ i. ordering_then (c.end_cmp-from.ensures i) (c.end_cmp-to.ensures i))
    ∙ ends_regroup (name_cmp (instance_name is a.from) (instance_name is b.from)) (name_cmp (port_name cs is a.from a.from_port) (port_name cs is b.from b.from_port)) (name_cmp (instance_name is a.to) (instance_name is b.to))
    (name_cmp (port_name cs is a.to a.to_port) (port_name cs is b.to b.to_port))
