use Rattle.std.proofs.Common.{take}
use Rattle.fp_topologies.specs.Firsts.{FindsInEach}
use Rattle.fp_topologies.proofs.index.firsts_in_each.Given as goal

abbrev pub invariant-loop-component : goal.invariant-loop-component
invariant-loop-component l = FindsInEach (take l.component-index l.components) l.firsts.items
