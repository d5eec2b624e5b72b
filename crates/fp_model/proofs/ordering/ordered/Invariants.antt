use Rattle.std.proofs.Common.{◌≡◌, ◌++◌, drop}
use Rattle.fp_model.specs.Counted.{none_before, order_from}
use Rattle.fp_model.proofs.ordering.ordered.Given as goal

-- what stands there and what is left are all
abbrev pub invariant-loop-item : goal.invariant-loop-item
invariant-loop-item l = l.found ++ order_from l.counts (drop l.item-index l.items) ≡ order_from none_before l.items
