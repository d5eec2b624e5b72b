use Rattle.std.proofs.Common.{◌≡◌, Bool, subst}
use Rattle.fp_running.specs.Progress.{Added}
use Rattle.fp_running.proofs.Left.{less_when_added}
use Rattle.fp_running.proofs.Replaying.{added_more}
use Rattle.fp_running.proofs.running.Running.go_on.Goals as goal

pub loop-stepped-preserved : goal.loop-stepped-preserved
loop-stepped-preserved c =
    added_more c.loop-stepped.added c.args.self.now c.loop-stepped.self c.try_all.new.self c.loop-stepped.invariant (subst (λ (b : Bool). Added b c.loop-stepped.self c.try_all.new.self) c.if-stepped.true c.in_ok-stepped.ensures.added)

pub loop-stepped-smaller : goal.loop-stepped-smaller
loop-stepped-smaller c =
    less_when_added c.steps.ensures.laws c.fitting_entries.ensures c.prefixes.ensures c.loop-stepped.self c.try_all.new.self c.keeps.ensures.run
    (subst (λ (b : Bool). Added b c.loop-stepped.self c.try_all.new.self) c.if-stepped.true c.in_ok-stepped.ensures.added)

pub returns-else-stepped-clause-ended : goal.returns-else-stepped-clause-ended
returns-else-stepped-clause-ended c = c.in_ok-stepped.ensures.ended c.if-stepped.false
