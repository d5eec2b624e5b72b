use Rattle.std.proofs.Common.{◌≡◌, flat_map, take}
use Rattle.fp_reach.specs.Rings.{flagged}
use Rattle.fp_reach.proofs.rings.cyclic_targets.Given as goal

abbrev pub invariant-loop-edge : goal.invariant-loop-edge
invariant-loop-edge g l = l.found.items ≡ flat_map (flagged g.K.Ord.cmp l.graph.numbers l.flags) (take l.edge-index l.edges)
