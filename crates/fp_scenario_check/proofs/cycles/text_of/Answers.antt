use Rattle.std.proofs.Common.{ℕ, get_or, refl, arith}
use Rattle.fp_scenario_check.proofs.Counting.{text_found, text_further, no_text}
use Rattle.fp_scenario_check.proofs.cycles.text_of.Goals as goal

pub loop-at-init : goal.loop-at-init
loop-at-init c = λ m found. found

pub loop-at-preserved : goal.loop-at-preserved
loop-at-preserved c = text_further c.args.counts.now c.args.handler c.loop-at.at c.loop-at.left (get_or c.args.counts.now c.loop-at.at 0) 0 (omega arith) refl (omega arith) c.loop-at.invariant

pub returns : goal.returns
returns c = λ m found. absurd (no_text c.args.counts.now c.args.handler c.loop-at.at c.loop-at.left m (omega arith) c.loop-at.invariant found)

pub returns-then-left-count : goal.returns-then-left-count
returns-then-left-count c = λ m found.
    text_found c.args.counts.now c.args.handler c.loop-at.at c.loop-at.left (get_or c.args.counts.now c.loop-at.at 0) 0 m c.loop-at-test.true refl c.if-left-count.true c.loop-at.invariant found
