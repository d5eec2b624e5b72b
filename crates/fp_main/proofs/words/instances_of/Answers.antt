use Rattle.std.proofs.Common.{◌+◌, arith}
use Rattle.fp_main.proofs.Counting.{all_tried, is_spelled, one_more}
use Rattle.fp_main.proofs.words.instances_of.Goals as goal

pub numbers-init : goal.numbers-init
numbers-init c = (omega arith, λ n some few e. omega (arith, some, few))

pub numbers-preserved : goal.numbers-preserved
numbers-preserved c =
    (omega (arith, c.numbers-test.true), one_more c.args.word.now c.numbers.number (c.numbers.number + 1) _ (omega arith) c.numbers.invariant.1 c.spells.ensures c.if-spells.false)

pub returns-then-spells : goal.returns-then-spells
returns-then-spells c = (omega arith, omega (arith, c.numbers-test.true), is_spelled c.args.word.now _ _ c.spells.ensures c.if-spells.true)

pub returns : goal.returns
returns c = all_tried c.args.word.now c.numbers.number (omega (arith, c.numbers-test.false)) c.numbers.invariant.1
