use Rattle.std.proofs.Common.{◌≡◌, length, slice_get, Some, refl}
use Rattle.std.proofs.lemmas.Option.{slice_get_read}
use Rattle.fp_component_forms.proofs.Lists.{EachIs}
use Rattle.fp_meaning.specs.Layout.{connection_items}
use Rattle.fp_type_forms.proofs.Taking.{taken_as}
use Rattle.fp_topology_forms.specs.Written.{ConnectionIs}
use Rattle.fp_topology_forms.proofs.Growing.{all_grown, next_grown, none_each, none_grown, one_more}
use Rattle.fp_topology_forms.proofs.connections.connections_taken.Goals as goal

pub loop-connection-init : goal.loop-connection-init
loop-connection-init c source scope ready =
    none_grown (EachIs (ConnectionIs source scope)) (connection_items scope) source c.args.marks.now c.args.resolutions.now c.args.connections.now c.args.next.now c.args.next.now c.new-row.result refl
    (none_each (ConnectionIs source scope) c.new-row.result c.new-row.ensures)

pub loop-connection-preserved : goal.loop-connection-preserved
loop-connection-preserved c source scope ready =
    let all = c.args.connections.now in
    let n = c.loop-connection.connection-index in
    let x = c.connection-item.result in
    let at : slice_get all n ≡ Some x = slice_get_read all (length all) n x refl c.loop-connection-test.true c.connection-item.is in
    next_grown (EachIs (ConnectionIs source scope)) (connection_items scope) source c.args.marks.now c.args.resolutions.now all n x c.args.next.now c.loop-connection.next _ c.loop-connection.row c.in_ok-row.row at (c.loop-connection.invariant source scope ready)
    (taken_as source c.args.marks.now c.args.resolutions.now (connection_items scope x) c.loop-connection.next _ (one_more (ConnectionIs source scope) x c.in_ok-one.one c.loop-connection.row c.in_ok-row.row c.in_ok-row.ensures)
    (c.in_ok-one.ensures source scope ready))

pub returns : goal.returns
returns c source scope ready =
    all_grown (EachIs (ConnectionIs source scope)) (connection_items scope) source c.args.marks.now c.args.resolutions.now c.args.connections.now c.loop-connection.connection-index c.args.next.now c.loop-connection.next c.loop-connection.row
    c.loop-connection-test.false (c.loop-connection.invariant source scope ready)
