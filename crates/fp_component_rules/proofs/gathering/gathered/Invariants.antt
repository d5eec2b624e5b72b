use Rattle.fp_component_rules.specs.Gathered.{AreGathered}
use Rattle.fp_component_rules.proofs.gathering.gathered.Given as goal

abbrev pub invariant-order : goal.invariant-order
invariant-order l = AreGathered l.interfaces l.sorted.order.items l.at l.gifts.items
