use Rattle.std.proofs.Common.{None, Some, arith}
use Rattle.fp_main.proofs.Finding.{fits, found_at}
use Rattle.fp_main.proofs.topologies.topology_named.Goals as goal

pub overflow_cast-result : goal.overflow_cast-result
overflow_cast-result c = let few = fits c.args.model.now c.in-Some.at c.requires (rw c.as_slice.ensures at c.in-Some.ensures.within) in omega (arith, few)

pub returns-in-Some : goal.returns-in-Some
returns-in-Some c = found_at c.args.name.now c.args.model.now c.as_slice.result.now (Some c.in-Some.at) c.as_slice.ensures c.in-Some.ensures.value

pub returns-in-None : goal.returns-in-None
returns-in-None c = found_at c.args.name.now c.args.model.now c.as_slice.result.now None c.as_slice.ensures c.in-None.ensures.value
