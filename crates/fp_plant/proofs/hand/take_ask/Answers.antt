use Rattle.std.proofs.Common.{◌≡◌, true, map, slice_get, slice_set, Some, sym, ap, subst, ◌∙◌}
use Rattle.fp_tables.specs.Lookup.{placed}
use Rattle.fp_tables.specs.Names.{numbers_differ}
use Rattle.fp_actor.specs.Acting.{due_of_actor}
use Rattle.fp_cell.specs.declared.cell.Reply.{Reply}
use Rattle.fp_cell.specs.declared.cell.Reply.TheVariants as reply
use Rattle.fp_gate.specs.Locks.{IsIdle}
use Rattle.fp_plant.specs.declared.plant.Stepped.TheVariants.{Took, NotYet, AtLimit}
use Rattle.fp_plant.specs.Hands.{passing, Replies}
use Rattle.fp_plant.specs.Planted.{Handed, Passing, IsUntouched, StepAnswers}
use Rattle.fp_plant.proofs.Dealing.{all_get}
use Rattle.fp_plant.proofs.Handing.{item_there, was_there, turned_hand, IsTurned, idle_set, on_err, still_hand, still_untouched, same_locks, not_yet, at_limit, acceptable, next_hand, took}
use Rattle.fp_plant.proofs.hand.take_ask.Goals as goal

pub turn-requires-clause-gave : goal.turn-requires-clause-gave
turn-requires-clause-gave g c =
    let there : slice_get (placed c.hand.inside.actor.tables) c.args.place ≡ Some c.args.instance =
    subst (λ (z : Handed). slice_get (placed z.actor.tables) c.args.place ≡ Some c.args.instance) (sym c.hand.view_is) c.requires.there in
    c.requires.gave (passing c.index_mut-pass.result.now)
    (subst (λ (z : Handed). slice_get z.passes c.args.place ≡ Some (passing c.index_mut-pass.result.now)) c.hand.view_is (was_there c.hand.inside.passes.items c.hand.inside.actor c.args.place c.args.instance c.index_mut-pass.result.now c.hand.invariant.0 there c.index_mut-pass.ensures.value))

pub turn-requires-clause-idle : goal.turn-requires-clause-idle
turn-requires-clause-idle g c =
    let there : slice_get (placed c.hand.inside.actor.tables) c.args.place ≡ Some c.args.instance =
    subst (λ (z : Handed). slice_get (placed z.actor.tables) c.args.place ≡ Some c.args.instance) (sym c.hand.view_is) c.requires.there in
    all_get (λ p. IsIdle p) c.hand.inside.passes.items c.args.place c.index_mut-pass.result.now c.hand.invariant.1 (item_there c.hand.inside.passes.items c.hand.inside.actor c.args.place c.args.instance c.index_mut-pass.result.now c.hand.invariant.0 there c.index_mut-pass.ensures.value)

pub turn-requires-clause-own : goal.turn-requires-clause-own
turn-requires-clause-own g c =
    let there : slice_get (placed c.hand.inside.actor.tables) c.args.place ≡ Some c.args.instance =
    subst (λ (z : Handed). slice_get (placed z.actor.tables) c.args.place ≡ Some c.args.instance) (sym c.hand.view_is) c.requires.there in
    c.hand.invariant.0.own c.args.place c.args.instance (passing c.index_mut-pass.result.now) there (was_there c.hand.inside.passes.items c.hand.inside.actor c.args.place c.args.instance c.index_mut-pass.result.now c.hand.invariant.0 there c.index_mut-pass.ensures.value)

pub invariant_of-hand : goal.invariant_of-hand
invariant_of-hand g c =
    let there : slice_get (placed c.hand.inside.actor.tables) c.args.place ≡ Some c.args.instance =
    subst (λ (z : Handed). slice_get (placed z.actor.tables) c.args.place ≡ Some c.args.instance) (sym c.hand.view_is) c.requires.there in
    let h : Handed = record { actor = c.hand.inside.actor; passes = map (λ p. passing p) c.hand.inside.passes.items } in
    let before = passing c.index_mut-pass.result.now in
    let after = passing c.turn.new.pass in
    let passes = map (λ p. passing p) (slice_set c.hand.inside.passes.items c.args.place c.turn.new.pass) in
    let k : IsTurned h c.args.place c.args.instance before after passes =
    turned_hand c.hand.inside.passes.items c.hand.inside.actor c.args.place c.args.instance c.index_mut-pass.result.now c.hand.invariant.0 there c.index_mut-pass.ensures.value c.turn.new.pass c.turn.ensures.turned in
    (still_hand h c.args.place c.args.instance before after passes k c.in_err-entry.ensures.failed, idle_set c.hand.inside.passes.items c.args.place c.turn.new.pass c.hand.invariant.1 c.turn.ensures.idle)

pub returns-in_err-entry-clause-locks : goal.returns-in_err-entry-clause-locks
returns-in_err-entry-clause-locks g c =
    let there : slice_get (placed c.hand.inside.actor.tables) c.args.place ≡ Some c.args.instance =
    subst (λ (z : Handed). slice_get (placed z.actor.tables) c.args.place ≡ Some c.args.instance) (sym c.hand.view_is) c.requires.there in
    let h : Handed = record { actor = c.hand.inside.actor; passes = map (λ p. passing p) c.hand.inside.passes.items } in
    let before = passing c.index_mut-pass.result.now in
    let after = passing c.turn.new.pass in
    let passes = map (λ p. passing p) (slice_set c.hand.inside.passes.items c.args.place c.turn.new.pass) in
    let k : IsTurned h c.args.place c.args.instance before after passes =
    turned_hand c.hand.inside.passes.items c.hand.inside.actor c.args.place c.args.instance c.index_mut-pass.result.now c.hand.invariant.0 there c.index_mut-pass.ensures.value c.turn.new.pass c.turn.ensures.turned in
    same_locks h c.args.place c.args.instance before after passes k ∙ ap (λ (z : Handed). map (λ (q : Passing). q.lock) z.passes) c.hand.view_is

pub returns-in_err-entry-clause-failed : goal.returns-in_err-entry-clause-failed
returns-in_err-entry-clause-failed g c =
    let there : slice_get (placed c.hand.inside.actor.tables) c.args.place ≡ Some c.args.instance =
    subst (λ (z : Handed). slice_get (placed z.actor.tables) c.args.place ≡ Some c.args.instance) (sym c.hand.view_is) c.requires.there in
    let h : Handed = record { actor = c.hand.inside.actor; passes = map (λ p. passing p) c.hand.inside.passes.items } in
    let before = passing c.index_mut-pass.result.now in
    let after = passing c.turn.new.pass in
    let passes = map (λ p. passing p) (slice_set c.hand.inside.passes.items c.args.place c.turn.new.pass) in
    let k : IsTurned h c.args.place c.args.instance before after passes =
    turned_hand c.hand.inside.passes.items c.hand.inside.actor c.args.place c.args.instance c.index_mut-pass.result.now c.hand.invariant.0 there c.index_mut-pass.ensures.value c.turn.new.pass c.turn.ensures.turned in
    on_err c.from_residual.result (subst (λ (z : Handed). IsUntouched z (record { actor = h.actor; passes = passes })) c.hand.view_is (still_untouched h c.args.place c.args.instance before after passes k c.in_err-entry.ensures.failed))

pub go_on-requires-clause-answers : goal.go_on-requires-clause-answers
go_on-requires-clause-answers g c =
    let there : slice_get (placed c.hand.inside.actor.tables) c.args.place ≡ Some c.args.instance =
    subst (λ (z : Handed). slice_get (placed z.actor.tables) c.args.place ≡ Some c.args.instance) (sym c.hand.view_is) c.requires.there in
    let h : Handed = record { actor = c.hand.inside.actor; passes = map (λ p. passing p) c.hand.inside.passes.items } in
    let before = passing c.index_mut-pass.result.now in
    let after = passing c.turn.new.pass in
    let passes = map (λ p. passing p) (slice_set c.hand.inside.passes.items c.args.place c.turn.new.pass) in
    let k : IsTurned h c.args.place c.args.instance before after passes =
    turned_hand c.hand.inside.passes.items c.hand.inside.actor c.args.place c.args.instance c.index_mut-pass.result.now c.hand.invariant.0 there c.index_mut-pass.ensures.value c.turn.new.pass c.turn.ensures.turned in
    let due : due_of_actor h.actor ≡ Some (c.args.instance, c.args.ask.now) =
    subst (λ (z : Handed). due_of_actor z.actor ≡ Some (c.args.instance, c.args.ask.now)) (sym c.hand.view_is) c.requires.due in
    let r : Replies h.actor c.args.instance c.args.ask.now (reply.Stepped c.in-Stepped.entry) before after =
    subst (λ (x : Reply). Replies h.actor c.args.instance c.args.ask.now x before after) c.in-Stepped.is c.in_ok-entry.ensures.replies in
    (acceptable h c.args.place c.args.instance before after passes k c.args.ask.now due c.in-Stepped.entry r).0

pub go_on-requires-clause-above : goal.go_on-requires-clause-above
go_on-requires-clause-above g c =
    let there : slice_get (placed c.hand.inside.actor.tables) c.args.place ≡ Some c.args.instance =
    subst (λ (z : Handed). slice_get (placed z.actor.tables) c.args.place ≡ Some c.args.instance) (sym c.hand.view_is) c.requires.there in
    let h : Handed = record { actor = c.hand.inside.actor; passes = map (λ p. passing p) c.hand.inside.passes.items } in
    let before = passing c.index_mut-pass.result.now in
    let after = passing c.turn.new.pass in
    let passes = map (λ p. passing p) (slice_set c.hand.inside.passes.items c.args.place c.turn.new.pass) in
    let k : IsTurned h c.args.place c.args.instance before after passes =
    turned_hand c.hand.inside.passes.items c.hand.inside.actor c.args.place c.args.instance c.index_mut-pass.result.now c.hand.invariant.0 there c.index_mut-pass.ensures.value c.turn.new.pass c.turn.ensures.turned in
    let due : due_of_actor h.actor ≡ Some (c.args.instance, c.args.ask.now) =
    subst (λ (z : Handed). due_of_actor z.actor ≡ Some (c.args.instance, c.args.ask.now)) (sym c.hand.view_is) c.requires.due in
    let r : Replies h.actor c.args.instance c.args.ask.now (reply.Stepped c.in-Stepped.entry) before after =
    subst (λ (x : Reply). Replies h.actor c.args.instance c.args.ask.now x before after) c.in-Stepped.is c.in_ok-entry.ensures.replies in
    (acceptable h c.args.place c.args.instance before after passes k c.args.ask.now due c.in-Stepped.entry r).1

pub invariant_of-hand-in-Stepped : goal.invariant_of-hand-in-Stepped
invariant_of-hand-in-Stepped g c =
    let there : slice_get (placed c.hand.inside.actor.tables) c.args.place ≡ Some c.args.instance =
    subst (λ (z : Handed). slice_get (placed z.actor.tables) c.args.place ≡ Some c.args.instance) (sym c.hand.view_is) c.requires.there in
    let h : Handed = record { actor = c.hand.inside.actor; passes = map (λ p. passing p) c.hand.inside.passes.items } in
    let before = passing c.index_mut-pass.result.now in
    let after = passing c.turn.new.pass in
    let passes = map (λ p. passing p) (slice_set c.hand.inside.passes.items c.args.place c.turn.new.pass) in
    let k : IsTurned h c.args.place c.args.instance before after passes =
    turned_hand c.hand.inside.passes.items c.hand.inside.actor c.args.place c.args.instance c.index_mut-pass.result.now c.hand.invariant.0 there c.index_mut-pass.ensures.value c.turn.new.pass c.turn.ensures.turned in
    let due : due_of_actor h.actor ≡ Some (c.args.instance, c.args.ask.now) =
    subst (λ (z : Handed). due_of_actor z.actor ≡ Some (c.args.instance, c.args.ask.now)) (sym c.hand.view_is) c.requires.due in
    let r : Replies h.actor c.args.instance c.args.ask.now (reply.Stepped c.in-Stepped.entry) before after =
    subst (λ (x : Reply). Replies h.actor c.args.instance c.args.ask.now x before after) c.in-Stepped.is c.in_ok-entry.ensures.replies in (
      next_hand h c.args.place c.args.instance before after passes k c.args.ask.now due c.in-Stepped.entry r c.go_on.new.actor c.go_on.ensures.same c.go_on.ensures.trace
          (subst (λ (z : Handed). numbers_differ (placed z.actor.tables) ≡ true) (sym c.hand.view_is) c.requires.differ) c.go_on.ensures.told,
      idle_set c.hand.inside.passes.items c.args.place c.turn.new.pass c.hand.invariant.1 c.turn.ensures.idle,
    )

pub invariant_of-hand-in-NotYet : goal.invariant_of-hand-in-NotYet
invariant_of-hand-in-NotYet g c =
    let there : slice_get (placed c.hand.inside.actor.tables) c.args.place ≡ Some c.args.instance =
    subst (λ (z : Handed). slice_get (placed z.actor.tables) c.args.place ≡ Some c.args.instance) (sym c.hand.view_is) c.requires.there in
    let h : Handed = record { actor = c.hand.inside.actor; passes = map (λ p. passing p) c.hand.inside.passes.items } in
    let before = passing c.index_mut-pass.result.now in
    let after = passing c.turn.new.pass in
    let passes = map (λ p. passing p) (slice_set c.hand.inside.passes.items c.args.place c.turn.new.pass) in
    let k : IsTurned h c.args.place c.args.instance before after passes =
    turned_hand c.hand.inside.passes.items c.hand.inside.actor c.args.place c.args.instance c.index_mut-pass.result.now c.hand.invariant.0 there c.index_mut-pass.ensures.value c.turn.new.pass c.turn.ensures.turned in
    let r : Replies h.actor c.args.instance c.args.ask.now (reply.NotYet c.in-NotYet.why) before after =
    subst (λ (x : Reply). Replies h.actor c.args.instance c.args.ask.now x before after) c.in-NotYet.is c.in_ok-entry.ensures.replies in
    (still_hand h c.args.place c.args.instance before after passes k r.says.1, idle_set c.hand.inside.passes.items c.args.place c.turn.new.pass c.hand.invariant.1 c.turn.ensures.idle)

pub invariant_of-hand-in-AtLimit : goal.invariant_of-hand-in-AtLimit
invariant_of-hand-in-AtLimit g c =
    let there : slice_get (placed c.hand.inside.actor.tables) c.args.place ≡ Some c.args.instance =
    subst (λ (z : Handed). slice_get (placed z.actor.tables) c.args.place ≡ Some c.args.instance) (sym c.hand.view_is) c.requires.there in
    let h : Handed = record { actor = c.hand.inside.actor; passes = map (λ p. passing p) c.hand.inside.passes.items } in
    let before = passing c.index_mut-pass.result.now in
    let after = passing c.turn.new.pass in
    let passes = map (λ p. passing p) (slice_set c.hand.inside.passes.items c.args.place c.turn.new.pass) in
    let k : IsTurned h c.args.place c.args.instance before after passes =
    turned_hand c.hand.inside.passes.items c.hand.inside.actor c.args.place c.args.instance c.index_mut-pass.result.now c.hand.invariant.0 there c.index_mut-pass.ensures.value c.turn.new.pass c.turn.ensures.turned in
    let r : Replies h.actor c.args.instance c.args.ask.now (reply.AtLimit) before after =
    subst (λ (x : Reply). Replies h.actor c.args.instance c.args.ask.now x before after) c.in-AtLimit.is c.in_ok-entry.ensures.replies in
    (still_hand h c.args.place c.args.instance before after passes k r.says.4, idle_set c.hand.inside.passes.items c.args.place c.turn.new.pass c.hand.invariant.1 c.turn.ensures.idle)

pub returns-in-Stepped-clause-locks : goal.returns-in-Stepped-clause-locks
returns-in-Stepped-clause-locks g c =
    let there : slice_get (placed c.hand.inside.actor.tables) c.args.place ≡ Some c.args.instance =
    subst (λ (z : Handed). slice_get (placed z.actor.tables) c.args.place ≡ Some c.args.instance) (sym c.hand.view_is) c.requires.there in
    let h : Handed = record { actor = c.hand.inside.actor; passes = map (λ p. passing p) c.hand.inside.passes.items } in
    let before = passing c.index_mut-pass.result.now in
    let after = passing c.turn.new.pass in
    let passes = map (λ p. passing p) (slice_set c.hand.inside.passes.items c.args.place c.turn.new.pass) in
    let k : IsTurned h c.args.place c.args.instance before after passes =
    turned_hand c.hand.inside.passes.items c.hand.inside.actor c.args.place c.args.instance c.index_mut-pass.result.now c.hand.invariant.0 there c.index_mut-pass.ensures.value c.turn.new.pass c.turn.ensures.turned in
    same_locks h c.args.place c.args.instance before after passes k ∙ ap (λ (z : Handed). map (λ (q : Passing). q.lock) z.passes) c.hand.view_is

pub returns-in-NotYet-clause-locks : goal.returns-in-NotYet-clause-locks
returns-in-NotYet-clause-locks g c =
    let there : slice_get (placed c.hand.inside.actor.tables) c.args.place ≡ Some c.args.instance =
    subst (λ (z : Handed). slice_get (placed z.actor.tables) c.args.place ≡ Some c.args.instance) (sym c.hand.view_is) c.requires.there in
    let h : Handed = record { actor = c.hand.inside.actor; passes = map (λ p. passing p) c.hand.inside.passes.items } in
    let before = passing c.index_mut-pass.result.now in
    let after = passing c.turn.new.pass in
    let passes = map (λ p. passing p) (slice_set c.hand.inside.passes.items c.args.place c.turn.new.pass) in
    let k : IsTurned h c.args.place c.args.instance before after passes =
    turned_hand c.hand.inside.passes.items c.hand.inside.actor c.args.place c.args.instance c.index_mut-pass.result.now c.hand.invariant.0 there c.index_mut-pass.ensures.value c.turn.new.pass c.turn.ensures.turned in
    same_locks h c.args.place c.args.instance before after passes k ∙ ap (λ (z : Handed). map (λ (q : Passing). q.lock) z.passes) c.hand.view_is

pub returns-in-AtLimit-clause-locks : goal.returns-in-AtLimit-clause-locks
returns-in-AtLimit-clause-locks g c =
    let there : slice_get (placed c.hand.inside.actor.tables) c.args.place ≡ Some c.args.instance =
    subst (λ (z : Handed). slice_get (placed z.actor.tables) c.args.place ≡ Some c.args.instance) (sym c.hand.view_is) c.requires.there in
    let h : Handed = record { actor = c.hand.inside.actor; passes = map (λ p. passing p) c.hand.inside.passes.items } in
    let before = passing c.index_mut-pass.result.now in
    let after = passing c.turn.new.pass in
    let passes = map (λ p. passing p) (slice_set c.hand.inside.passes.items c.args.place c.turn.new.pass) in
    let k : IsTurned h c.args.place c.args.instance before after passes =
    turned_hand c.hand.inside.passes.items c.hand.inside.actor c.args.place c.args.instance c.index_mut-pass.result.now c.hand.invariant.0 there c.index_mut-pass.ensures.value c.turn.new.pass c.turn.ensures.turned in
    same_locks h c.args.place c.args.instance before after passes k ∙ ap (λ (z : Handed). map (λ (q : Passing). q.lock) z.passes) c.hand.view_is

pub returns-in-Stepped-clause-answered : goal.returns-in-Stepped-clause-answered
returns-in-Stepped-clause-answered g c =
    let there : slice_get (placed c.hand.inside.actor.tables) c.args.place ≡ Some c.args.instance =
    subst (λ (z : Handed). slice_get (placed z.actor.tables) c.args.place ≡ Some c.args.instance) (sym c.hand.view_is) c.requires.there in
    let h : Handed = record { actor = c.hand.inside.actor; passes = map (λ p. passing p) c.hand.inside.passes.items } in
    let before = passing c.index_mut-pass.result.now in
    let after = passing c.turn.new.pass in
    let passes = map (λ p. passing p) (slice_set c.hand.inside.passes.items c.args.place c.turn.new.pass) in
    let k : IsTurned h c.args.place c.args.instance before after passes =
    turned_hand c.hand.inside.passes.items c.hand.inside.actor c.args.place c.args.instance c.index_mut-pass.result.now c.hand.invariant.0 there c.index_mut-pass.ensures.value c.turn.new.pass c.turn.ensures.turned in
    let due : due_of_actor h.actor ≡ Some (c.args.instance, c.args.ask.now) =
    subst (λ (z : Handed). due_of_actor z.actor ≡ Some (c.args.instance, c.args.ask.now)) (sym c.hand.view_is) c.requires.due in
    let r : Replies h.actor c.args.instance c.args.ask.now (reply.Stepped c.in-Stepped.entry) before after =
    subst (λ (x : Reply). Replies h.actor c.args.instance c.args.ask.now x before after) c.in-Stepped.is c.in_ok-entry.ensures.replies in
    subst (λ (z : Handed). StepAnswers z Took (record { actor = c.go_on.new.actor; passes = passes })) c.hand.view_is (took h c.args.place c.args.instance before after passes k c.args.ask.now due c.in-Stepped.entry r c.go_on.new.actor c.go_on.ensures.same c.go_on.ensures.trace c.go_on.ensures.state)

pub returns-in-NotYet-clause-answered : goal.returns-in-NotYet-clause-answered
returns-in-NotYet-clause-answered g c =
    let there : slice_get (placed c.hand.inside.actor.tables) c.args.place ≡ Some c.args.instance =
    subst (λ (z : Handed). slice_get (placed z.actor.tables) c.args.place ≡ Some c.args.instance) (sym c.hand.view_is) c.requires.there in
    let h : Handed = record { actor = c.hand.inside.actor; passes = map (λ p. passing p) c.hand.inside.passes.items } in
    let before = passing c.index_mut-pass.result.now in
    let after = passing c.turn.new.pass in
    let passes = map (λ p. passing p) (slice_set c.hand.inside.passes.items c.args.place c.turn.new.pass) in
    let k : IsTurned h c.args.place c.args.instance before after passes =
    turned_hand c.hand.inside.passes.items c.hand.inside.actor c.args.place c.args.instance c.index_mut-pass.result.now c.hand.invariant.0 there c.index_mut-pass.ensures.value c.turn.new.pass c.turn.ensures.turned in
    let due : due_of_actor h.actor ≡ Some (c.args.instance, c.args.ask.now) =
    subst (λ (z : Handed). due_of_actor z.actor ≡ Some (c.args.instance, c.args.ask.now)) (sym c.hand.view_is) c.requires.due in
    let r : Replies h.actor c.args.instance c.args.ask.now (reply.NotYet c.in-NotYet.why) before after =
    subst (λ (x : Reply). Replies h.actor c.args.instance c.args.ask.now x before after) c.in-NotYet.is c.in_ok-entry.ensures.replies in
    subst (λ (z : Handed). StepAnswers z (NotYet c.in-NotYet.why) (record { actor = h.actor; passes = passes })) c.hand.view_is (not_yet h c.args.place c.args.instance before after passes k c.args.ask.now due c.in-NotYet.why r)

pub returns-in-AtLimit-clause-answered : goal.returns-in-AtLimit-clause-answered
returns-in-AtLimit-clause-answered g c =
    let there : slice_get (placed c.hand.inside.actor.tables) c.args.place ≡ Some c.args.instance =
    subst (λ (z : Handed). slice_get (placed z.actor.tables) c.args.place ≡ Some c.args.instance) (sym c.hand.view_is) c.requires.there in
    let h : Handed = record { actor = c.hand.inside.actor; passes = map (λ p. passing p) c.hand.inside.passes.items } in
    let before = passing c.index_mut-pass.result.now in
    let after = passing c.turn.new.pass in
    let passes = map (λ p. passing p) (slice_set c.hand.inside.passes.items c.args.place c.turn.new.pass) in
    let k : IsTurned h c.args.place c.args.instance before after passes =
    turned_hand c.hand.inside.passes.items c.hand.inside.actor c.args.place c.args.instance c.index_mut-pass.result.now c.hand.invariant.0 there c.index_mut-pass.ensures.value c.turn.new.pass c.turn.ensures.turned in
    let due : due_of_actor h.actor ≡ Some (c.args.instance, c.args.ask.now) =
    subst (λ (z : Handed). due_of_actor z.actor ≡ Some (c.args.instance, c.args.ask.now)) (sym c.hand.view_is) c.requires.due in
    let r : Replies h.actor c.args.instance c.args.ask.now (reply.AtLimit) before after =
    subst (λ (x : Reply). Replies h.actor c.args.instance c.args.ask.now x before after) c.in-AtLimit.is c.in_ok-entry.ensures.replies in
    subst (λ (z : Handed). StepAnswers z AtLimit (record { actor = h.actor; passes = passes })) c.hand.view_is (at_limit h c.args.place c.args.instance before after passes k c.args.ask.now due r)
