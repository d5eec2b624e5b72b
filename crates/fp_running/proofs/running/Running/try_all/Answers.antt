use Rattle.std.proofs.Common.{◌≡◌, ◌<◌, true, sym, ◌∙◌, subst, arith}
use Rattle.fp_events.specs.Ends.{IsEnded}
use Rattle.fp_events.specs.Fits.{actor_count}
use Rattle.fp_running.specs.Progress.{Progress, Added, Turned}
use Rattle.fp_running.proofs.Nothing.{ended, one_more}
use Rattle.fp_running.proofs.Steps.{Cannot, cannot, unchanged, taken}
use Rattle.fp_running.proofs.running.Running.try_all.Goals as goal

pub turn-requires : goal.turn-requires
turn-requires c =
    subst (λ (r : Progress). c.loop-actor.actor < actor_count r.tables r.program) (sym c.loop-actor.invariant.same) (omega (arith, c.loop-actor-test.true, c.actor_count-actor-end.ensures))

pub loop-actor-preserved : goal.loop-actor-preserved
loop-actor-preserved c =
    let turned = subst (λ (r : Progress). Turned c.loop-actor.actor c.in_ok-turn.turn r c.turn.new.self) c.loop-actor.invariant.same c.in_ok-turn.ensures.turned in
    record {
      same = unchanged c.outcomes.ensures c.args.self.now c.turn.new.self c.loop-actor.actor c.in_ok-turn.turn turned (sym c.is_step.ensures ∙ c.if-is_step.false);
      none = one_more (Cannot c.args.self.now) c.loop-actor.actor _ (omega arith) c.loop-actor.invariant.none
          (cannot c.outcomes.ensures c.args.self.now c.turn.new.self c.loop-actor.actor c.in_ok-turn.turn turned (sym c.is_step.ensures ∙ c.if-is_step.false));
    }

pub returns-then-is_step-clause-added : goal.returns-then-is_step-clause-added
returns-then-is_step-clause-added c =
    subst (λ (r : Progress). Added true r c.turn.new.self) c.loop-actor.invariant.same
    (taken c.outcomes.ensures c.loop-actor.self c.turn.new.self c.loop-actor.actor c.in_ok-turn.turn c.in_ok-turn.ensures.turned (sym c.is_step.ensures ∙ c.if-is_step.true))

pub returns-clause-ended : goal.returns-clause-ended
returns-clause-ended c = λ none.
    let r = c.args.self.now in
    subst (λ (r : Progress). IsEnded r.tables r.program r.entries) (sym c.loop-actor.invariant.same)
    (ended r.tables r.program (c.steps.ensures.laws r.tables r.program) (c.due_asks.ensures.fit r.tables r.program c.keeps.ensures.sound c.keeps.ensures.good) c.ends.ensures.due r.entries c.keeps.ensures.run
    (λ a low. c.loop-actor.invariant.none a (omega (arith, low, c.actor_count-actor-end.ensures, c.loop-actor-test.false))))
