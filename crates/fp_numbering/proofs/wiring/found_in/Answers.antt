use Rattle.std.proofs.Common.{arith}
use Rattle.fp_numbering.proofs.Finding.{all_found, nothing_found}
use Rattle.fp_numbering.proofs.wiring.found_in.Goals as goal

pub topologies-init : goal.topologies-init
topologies-init c = nothing_found c.args.model.now c.nothing-found.result c.nothing-found.ensures

pub returns : goal.returns
returns c = all_found c.args.model.now c.topologies.topology c.topologies.found (omega (arith, c.topologies-test.false, c.topologies.auto.topology-end, c.len-topology-end.ensures)) c.topologies.invariant
