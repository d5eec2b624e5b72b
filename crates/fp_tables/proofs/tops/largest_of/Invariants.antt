use Rattle.std.proofs.Common.{◌≡◌, map, take}
use Rattle.fp_tables.specs.Instances.{largest}
use Rattle.fp_tables.proofs.tops.largest_of.Given as goal

abbrev pub invariant-loop-item : goal.invariant-loop-item
invariant-loop-item g l = l.top ≡ largest (map g.T.Numbered.number_of (take l.item-index l.items))
