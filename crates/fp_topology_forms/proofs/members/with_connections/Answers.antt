use Rattle.std.proofs.Common.{List, flat_map, subst}
use Rattle.fp_tree.specs.declared.topology.Connection.{Connection}
use Rattle.fp_meaning.specs.Layout.{connection_items}
use Rattle.fp_type_forms.specs.Resolved.{Takes}
use Rattle.fp_type_forms.specs.Written.{AllAt}
use Rattle.fp_type_forms.proofs.Taking.{taken_as}
use Rattle.fp_topology_forms.specs.Written.{ConnectionIs}
use Rattle.fp_topology_forms.proofs.Rows.{connections_behind}
use Rattle.fp_topology_forms.proofs.members.with_connections.Goals as goal

pub returns : goal.returns
returns c source scope ready =
    let g = c.args.group.now in
    taken_as source c.args.marks.now c.args.resolutions.now (flat_map (connection_items scope) g.connections) c.args.next.now c.connections_taken.new.next
    (λ h. connections_behind source scope c.args.before g c.in_ok-more.more c.in_ok-connections.connections c.in_ok-connections.ensures h)
    (subst (λ (cs : List Connection). Takes source c.args.marks.now c.args.resolutions.now (flat_map (connection_items scope) cs) c.args.next.now c.connections_taken.new.next (AllAt (λ position. ConnectionIs source scope) 0 cs c.in_ok-more.more)) c.as_slice-of.ensures
    (c.in_ok-more.ensures source scope ready))
