use Rattle.std.proofs.Common.{◌≡◌, ◌<◌, sym, ◌∙◌, subst, is_some, arith}
use Rattle.fp_events.specs.Ends.{next_stamp}
use Rattle.fp_events.specs.Fits.{actor_count}
use Rattle.fp_running.specs.Progress.{Progress, Turned}
use Rattle.fp_running.proofs.Closed.{any_counted, none_counted}
use Rattle.fp_running.proofs.Nothing.{one_more}
use Rattle.fp_running.proofs.Steps.{HasNone, comes_above, not_taken, unchanged}
use Rattle.fp_running.proofs.running.Running.has_step_above.Goals as goal

pub turn-requires : goal.turn-requires
turn-requires c =
    subst (λ (r : Progress). c.loop-actor.actor < actor_count r.tables r.program) (sym c.loop-actor.invariant.same) (omega (arith, c.loop-actor-test.true, c.actor_count-actor-end.ensures))

pub loop-actor-preserved : goal.loop-actor-preserved
loop-actor-preserved c =
    let turned = subst (λ (r : Progress). Turned c.loop-actor.actor c.in_ok-turn.turn r c.turn.new.self) c.loop-actor.invariant.same c.in_ok-turn.ensures.turned in
    let no_step = not_taken c.outcomes.ensures c.args.self.now c.turn.new.self c.loop-actor.actor c.in_ok-turn.turn turned c.requires in
    record {
      same = unchanged c.outcomes.ensures c.args.self.now c.turn.new.self c.loop-actor.actor c.in_ok-turn.turn turned no_step;
      none = one_more (HasNone c.args.self.now) c.loop-actor.actor _ (omega arith) c.loop-actor.invariant.none
          (λ w leaves. comes_above c.outcomes.ensures c.args.self.now c.turn.new.self c.loop-actor.actor c.in_ok-turn.turn turned no_step w leaves ∙ sym c.is_above.ensures ∙ c.if-is_above.false);
    }

pub returns-then-is_above-clause-above : goal.returns-then-is_above-clause-above
returns-then-is_above-clause-above c = λ w leaves.
    let r = c.args.self.now in
    let turned = subst (λ (r : Progress). Turned c.loop-actor.actor c.in_ok-turn.turn r c.turn.new.self) c.loop-actor.invariant.same c.in_ok-turn.ensures.turned in
    let no_step = not_taken c.outcomes.ensures r c.turn.new.self c.loop-actor.actor c.in_ok-turn.turn turned c.requires in
    sym (any_counted (λ a. is_some (next_stamp r.tables r.program w a)) (actor_count r.tables r.program) 0 c.loop-actor.actor (omega arith) (omega (arith, c.loop-actor-test.true, c.actor_count-actor-end.ensures))
    (comes_above c.outcomes.ensures r c.turn.new.self c.loop-actor.actor c.in_ok-turn.turn turned no_step w leaves ∙ sym c.is_above.ensures ∙ c.if-is_above.true))

pub returns-then-is_above-clause-same : goal.returns-then-is_above-clause-same
returns-then-is_above-clause-same c =
    let r = c.args.self.now in
    let turned = subst (λ (r : Progress). Turned c.loop-actor.actor c.in_ok-turn.turn r c.turn.new.self) c.loop-actor.invariant.same c.in_ok-turn.ensures.turned in
    let no_step = not_taken c.outcomes.ensures r c.turn.new.self c.loop-actor.actor c.in_ok-turn.turn turned c.requires in
    unchanged c.outcomes.ensures r c.turn.new.self c.loop-actor.actor c.in_ok-turn.turn turned no_step

pub returns-clause-above : goal.returns-clause-above
returns-clause-above c = λ w leaves.
    let r = c.args.self.now in
    sym (none_counted (λ a. is_some (next_stamp r.tables r.program w a)) (actor_count r.tables r.program) 0
    (λ a low. c.loop-actor.invariant.none a (omega (arith, low, c.actor_count-actor-end.ensures, c.loop-actor-test.false)) w leaves))
