use Rattle.fp_graph.specs.Depths.{AreDepths}
use Rattle.fp_graph.proofs.depths.too_deep.Given as goal

abbrev pub invariant-order : goal.invariant-order
invariant-order l = AreDepths l.stretches l.targets 257 l.sorted.order.items l.index l.depths.items
