use Rattle.std.proofs.Common.{Some, ◌∙◌, ap, sym}
use Rattle.fp_plant.specs.Hands.{passing}
use Rattle.fp_plant.specs.Noted.{cell_name}
use Rattle.fp_plant.proofs.Turning.{IsTurn, its_seat, its_actors, its_ask, may_leave, replied, failed}
use Rattle.fp_plant.proofs.hand.turn.Goals as goal

pub apply-reply-requires-clause-actor : goal.apply-reply-requires-clause-actor
apply-reply-requires-clause-actor g c =
    its_actors c.args.actor.now c.args.instance c.number-number.result c.enter-held.result.cell.seat
    (its_seat c.args.actor.now c.args.instance (passing c.args.pass.now) c.enter-held.result c.requires.own c.enter-held.ensures.value.0)
    (c.number-number.ensures ∙ c.requires.own.number) c.requires.actor

pub apply-reply-requires-clause-askable : goal.apply-reply-requires-clause-askable
apply-reply-requires-clause-askable g c =
    its_ask c.args.actor.now c.args.instance c.enter-held.result.cell.seat c.args.ask.now
    (its_seat c.args.actor.now c.args.instance (passing c.args.pass.now) c.enter-held.result c.requires.own c.enter-held.ensures.value.0) c.requires.askable

pub leave-requires-clause-name : goal.leave-requires-clause-name
leave-requires-clause-name g c = c.enter-held.ensures.same.1 ∙ (c.enter-held.ensures.value.0 ∙ ap (λ s. Some (cell_name s)) (sym c.apply-reply.ensures.seat))

pub leave-requires-clause-history : goal.leave-requires-clause-history
leave-requires-clause-history g c =
    may_leave c.apply-reply.result (passing c.enter-held.new.pass).view c.enter-held.result c.apply-reply.new.self c.number-number.result c.last-seen.result c.args.ask.now
    (c.number-number.ensures ∙ sym c.enter-held.ensures.same.2) c.enter-held.ensures.turn.1 c.apply-reply.ensures.known c.apply-reply.ensures.answered c.apply-reply.ensures.notes
    c.apply-reply.ensures.unchanged

pub returns-clause-turned : goal.returns-clause-turned
returns-clause-turned g c = record {
  lock = c.leave.ensures.same.0 ∙ c.enter-held.ensures.same.0;
  name = c.leave.ensures.same.1 ∙ c.enter-held.ensures.same.1;
  number = c.leave.ensures.same.2 ∙ c.enter-held.ensures.same.2;
  made = c.leave.ensures.same.3 ∙ c.enter-held.ensures.same.3;
  turns = c.leave.ensures.left.0 ∙ c.enter-held.ensures.turn.0;
}

pub returns-clause-replies : goal.returns-clause-replies
returns-clause-replies g c =
    let turn : IsTurn c.args.actor.now c.args.instance c.number-number.result c.last-seen.result c.args.ask.now (passing c.args.pass.now) (passing c.enter-held.new.pass) (passing c.leave.new.pass) c.enter-held.result c.apply-reply.new.self =
    record {
      own = c.requires.own;
      number_is = c.number-number.ensures ∙ c.requires.own.number;
      seen_is = c.last-seen.ensures;
      known = c.apply-reply.ensures.known;
      met = c.enter-held.ensures.value;
      begins = c.enter-held.ensures.turn;
      ends = c.leave.ensures.left;
    } in
    replied c.args.actor.now c.args.instance c.number-number.result c.last-seen.result c.args.ask.now (passing c.args.pass.now) (passing c.enter-held.new.pass) (passing c.leave.new.pass) c.enter-held.result c.apply-reply.new.self turn c.apply-reply.result c.apply-reply.ensures.answered c.apply-reply.ensures.notes

pub returns-clause-failed : goal.returns-clause-failed
returns-clause-failed g c =
    let turn : IsTurn c.args.actor.now c.args.instance c.number-number.result c.last-seen.result c.args.ask.now (passing c.args.pass.now) (passing c.enter-held.new.pass) (passing c.leave.new.pass) c.enter-held.result c.apply-reply.new.self =
    record {
      own = c.requires.own;
      number_is = c.number-number.ensures ∙ c.requires.own.number;
      seen_is = c.last-seen.ensures;
      known = c.apply-reply.ensures.known;
      met = c.enter-held.ensures.value;
      begins = c.enter-held.ensures.turn;
      ends = c.leave.ensures.left;
    } in
    failed c.args.actor.now c.args.instance c.number-number.result c.last-seen.result c.args.ask.now (passing c.args.pass.now) (passing c.enter-held.new.pass) (passing c.leave.new.pass) c.enter-held.result c.apply-reply.new.self turn c.apply-reply.result c.apply-reply.ensures.unchanged
