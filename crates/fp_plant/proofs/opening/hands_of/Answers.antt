use Rattle.std.proofs.Common.{rules, ◌≡◌, ◌∷◌}
use Rattle.std.specs.Vec.Iter.{into_iter_items}
use Rattle.fp_plant.proofs.Beginning.{next_row, one_hand}
use Rattle.fp_plant.proofs.opening.hands_of.Goals as goal

pub hand_of-requires-clause-passes : goal.hand_of-requires-clause-passes
hand_of-requires-clause-passes c =
    let rest = into_iter_items c.next.new.self in
    let all = into_iter_items c.loop-passes.passes-iterator in
    let is : all ≡ c.in-Some.passes ∷ rest = search rules in
    c.requires.each c.loop-passes.number c.in-Some.passes
    (next_row c.args.tables.now c.args.program.now c.args.rows.items c.loop-passes.number c.in-Some.passes all rest c.loop-passes.hands c.loop-passes.invariant is)

pub loop-passes-preserved : goal.loop-passes-preserved
loop-passes-preserved c =
    let rest = into_iter_items c.next.new.self in
    let all = into_iter_items c.loop-passes.passes-iterator in
    let is : all ≡ c.in-Some.passes ∷ rest = search rules in
    one_hand c.args.tables.now c.args.program.now c.args.rows.items c.loop-passes.number c.in-Some.passes all rest c.loop-passes.hands c.push.new.self c.in_ok-hand_of.field-0
    c.loop-passes.invariant is c.in_ok-hand_of.ensures c.in_ok-push.ensures.ok
