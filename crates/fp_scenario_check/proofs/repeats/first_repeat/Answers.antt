use Rattle.std.proofs.Common.{arith}
use Rattle.std.proofs.lemmas.Option.{slice_get-get_or}
use Rattle.fp_scenario_check.proofs.Repeated.{all_seen, none_seen, seen_again, seen_next}
use Rattle.fp_scenario_check.proofs.repeats.first_repeat.Goals as goal

pub loop-at-init : goal.loop-at-init
loop-at-init c = none_seen c.args.keys.now c.new-seen.result c.new-seen.ensures.empty

pub loop-at-preserved : goal.loop-at-preserved
loop-at-preserved c =
    seen_next c.args.keys.now c.loop-at.at _ c.loop-at.seen c.see.new.seen c.in_ok-again.again (slice_get-get_or c.args.keys.now c.loop-at.at _ (omega arith)) c.loop-at.invariant c.in_ok-again.ensures.again
    c.if-again.false c.in_ok-again.ensures.seen

pub returns-then-again : goal.returns-then-again
returns-then-again c =
    seen_again c.args.keys.now c.loop-at.at _ c.loop-at.seen c.in_ok-again.again (slice_get-get_or c.args.keys.now c.loop-at.at _ (omega arith)) c.loop-at.invariant c.in_ok-again.ensures.again c.if-again.true

pub returns : goal.returns
returns c = all_seen c.args.keys.now c.loop-at.at c.loop-at.seen (omega arith) c.loop-at.invariant
