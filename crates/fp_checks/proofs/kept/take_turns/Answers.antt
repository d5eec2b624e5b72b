use Rattle.fp_checks.proofs.Keeping.{then_same}
use Rattle.fp_checks.proofs.kept.take_turns.Goals as goal

pub loop-actor-preserved : goal.loop-actor-preserved
loop-actor-preserved c = then_same c.args.run.now c.loop-actor.run c.take_turn.new.run c.loop-actor.invariant c.in_ok-take_turn.ensures
