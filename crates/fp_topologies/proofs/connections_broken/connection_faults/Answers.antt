use Rattle.std.proofs.Common.{ℕ}
use Rattle.std.proofs.lemmas.Option.{slice_get-get_or}
use Rattle.fp_base.proofs.Elements.{least_first_none, least_next, least_of_all}
use Rattle.fp_topologies.specs.ConnectionBroken.{BrokenConnection}
use Rattle.fp_topologies.proofs.connections_broken.connection_faults.Goals as goal

pub loop-connection-init : goal.loop-connection-init
loop-connection-init c = least_first_none (λ (k : ℕ). BrokenConnection) c.args.connections.now

pub loop-connection-preserved : goal.loop-connection-preserved
loop-connection-preserved c =
    let all = c.args.connections.now in
    let n = c.loop-connection.connection-index in
    least_next (λ (k : ℕ). BrokenConnection) all n _ c.loop-connection.first c.lesser-first.result c.connection_fault-fault.result (slice_get-get_or all n _ c.loop-connection-test.true) c.lesser-first.ensures c.connection_fault-fault.ensures c.loop-connection.invariant

pub returns : goal.returns
returns c = least_of_all (λ (k : ℕ). BrokenConnection) c.args.connections.now c.loop-connection.connection-index c.loop-connection.first c.loop-connection-test.false c.loop-connection.invariant
