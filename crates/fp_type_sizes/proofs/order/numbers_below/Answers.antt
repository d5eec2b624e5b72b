use Rattle.fp_type_sizes.proofs.Earlier.{numbers_none, numbers_next}
use Rattle.fp_type_sizes.proofs.order.numbers_below.Goals as goal

pub loop-at-init : goal.loop-at-init
loop-at-init c = numbers_none c.in_ok-numbers.numbers.items c.in_ok-numbers.ensures.items

pub loop-at-preserved : goal.loop-at-preserved
loop-at-preserved c = numbers_next c.loop-at.at c.loop-at.numbers.items c.push.new.self.items c.loop-at.invariant c.in_ok-push.ensures.items
