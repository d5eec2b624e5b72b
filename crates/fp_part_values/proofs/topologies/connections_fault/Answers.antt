use Rattle.std.proofs.Common.{◌≡◌, [], Some, length, slice_get, flat_map, refl}
use Rattle.std.proofs.lemmas.Option.{slice_get_read}
use Rattle.fp_meaning.specs.Layout.{connection_items}
use Rattle.fp_part_values.specs.Numbers.{connection_numbers}
use Rattle.fp_part_values.proofs.Looping.{none_of_each, faults_none, faults_next, faults_all}
use Rattle.fp_part_values.proofs.topologies.connections_fault.Goals as goal

pub loop-connection-init : goal.loop-connection-init
loop-connection-init c source scope = faults_none (connection_items scope) (λ x. []) connection_numbers source c.args.marks.now c.args.resolutions.now scope c.args.connections.now c.args.next.now

pub loop-connection-preserved : goal.loop-connection-preserved
loop-connection-preserved c source scope =
    let all = c.args.connections.now in
    let n = c.loop-connection.connection-index in
    let x = c.connection-item.result in
    let at : slice_get all n ≡ Some x = slice_get_read all (length all) n x refl c.loop-connection-test.true c.connection-item.is in
    faults_next (connection_items scope) (λ x. []) connection_numbers source c.args.marks.now c.args.resolutions.now scope all n x c.args.next.now c.loop-connection.next c.connection_fault-one.new.next c.loop-connection.first c.lesser-first.result c.connection_fault-one.result at c.lesser-first.ensures
    (c.loop-connection.invariant source scope) (c.connection_fault-one.ensures source scope)

pub returns : goal.returns
returns c source scope =
    let all = c.args.connections.now in
    faults_all (connection_items scope) (λ x. []) connection_numbers source c.args.marks.now c.args.resolutions.now scope all c.loop-connection.connection-index c.args.next.now c.loop-connection.next c.loop-connection.first [] (flat_map connection_numbers all) (none_of_each (λ x. []) (λ x. refl) all) refl
    c.loop-connection-test.false (c.loop-connection.invariant source scope)
