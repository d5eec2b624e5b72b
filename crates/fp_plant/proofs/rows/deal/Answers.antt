use Rattle.std.proofs.Common.{rules, ◌≡◌, ◌+◌, ◌∷◌, length, slice_set, sym, subst, arith}
use Rattle.std.specs.Vec.Iter.{into_iter_items, into_iter_len}
use Rattle.fp_plant.proofs.Dealing.{IsDealt, one_dealt, all_dealt}
use Rattle.fp_plant.proofs.rows.deal.Goals as goal

pub loop-item-preserved : goal.loop-item-preserved
loop-item-preserved g c =
    let rest = into_iter_items c.next.new.self in
    let all = into_iter_items c.loop-item.item-iterator in
    let is : all ≡ c.in-Some.item ∷ rest = search rules in
    subst (λ z. IsDealt c.args.rows.now.items c.args.items (c.loop-item.at + 1) rest (slice_set c.loop-item.rows.items c.loop-item.at z)) (sym c.in_ok-push.ensures.ok)
    (one_dealt c.args.rows.now.items c.args.items c.loop-item.at c.in-Some.item all rest c.loop-item.rows.items c.index_mut.result.now c.loop-item.invariant is c.index_mut.ensures.value)

pub returns : goal.returns
returns g c =
    let left : into_iter_len c.loop-item.item-iterator ≡ 0 = search rules in
    let none : length (into_iter_items c.loop-item.item-iterator) ≡ 0 = omega (arith, left, c.loop-item.item-iterator.rest.ok.0) in
    all_dealt c.args.rows.now.items c.args.items c.loop-item.at (into_iter_items c.loop-item.item-iterator) c.loop-item.rows.items c.loop-item.invariant none
