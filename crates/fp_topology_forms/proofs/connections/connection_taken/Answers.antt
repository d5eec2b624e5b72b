use Rattle.std.proofs.Common.{◌++◌, refl}
use Rattle.fp_meaning.specs.Layout.{port_use_items}
use Rattle.fp_type_forms.proofs.Taking.{taken_as, taken_then}
use Rattle.fp_topology_forms.proofs.connections.connection_taken.Goals as goal

pub returns : goal.returns
returns c source scope ready =
    let first = port_use_items scope c.args.connection.now.from in
    let second = port_use_items scope c.args.connection.now.to in
    taken_as source c.args.marks.now c.args.resolutions.now (first ++ second) c.args.next.now _
    (λ t. record { at = refl; unmatched = refl; from = t.0; to = t.1 })
    (taken_then source c.args.marks.now c.args.resolutions.now first second c.args.next.now _ _ (c.in_ok-from.ensures source scope ready) (c.in_ok-to.ensures source scope ready))
