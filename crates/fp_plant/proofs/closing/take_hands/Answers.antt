use Rattle.std.proofs.Common.{rules, ◌≡◌, ◌++◌, ◌∷◌, [], List, length, ap, ◌∙◌, arith}
use Rattle.std.specs.Vec.Iter.{into_iter_items, into_iter_len}
use Rattle.fp_events.specs.declared.event.Entry.{Entry}
use Rattle.fp_plant.proofs.Ending.{one_taken, all_known}
use Rattle.fp_plant.proofs.closing.take_hands.Goals as goal

pub loop-hand-preserved : goal.loop-hand-preserved
loop-hand-preserved c =
    let rest = into_iter_items c.next.new.self in
    let all = into_iter_items c.loop-hand.hand-iterator in
    let is : all ≡ c.in-Some.hand ∷ rest = search rules in
    one_taken c.args.columns.now.items c.args.hands all rest c.loop-hand.traces c.loop-hand.columns.items c.in-Some.hand c.loop-hand.invariant is c.take_hand.new.columns.items c.push.new.self
    c.take_hand.ensures.known c.in_ok-take_hand.ensures.dealt
    (c.in_ok-push.ensures.ok ∙ ap (λ (t : List Entry). c.loop-hand.traces ++ t ∷ []) c.in_ok-take_hand.ensures.trace)

pub returns-clause-known : goal.returns-clause-known
returns-clause-known c =
    let left : into_iter_len c.loop-hand.hand-iterator ≡ 0 = search rules in
    let none : length (into_iter_items c.loop-hand.hand-iterator) ≡ 0 = omega (arith, left, c.loop-hand.hand-iterator.rest.ok.0) in
    all_known c.args.columns.now.items c.args.hands (into_iter_items c.loop-hand.hand-iterator) c.loop-hand.traces c.loop-hand.columns.items c.loop-hand.invariant none
