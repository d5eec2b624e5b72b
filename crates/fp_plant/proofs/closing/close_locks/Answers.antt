use Rattle.std.proofs.Common.{rules, ◌≡◌, ◌∷◌, length}
use Rattle.std.specs.Vec.Iter.{into_iter_items}
use Rattle.fp_plant.proofs.Ending.{lock_here, column_here, one_closed}
use Rattle.fp_plant.proofs.closing.close_locks.Goals as goal

pub close_lock-requires : goal.close_lock-requires
close_lock-requires c =
    let locks_left = into_iter_items c.next.new.self in
    let locks = into_iter_items c.loop-lock.lock-iterator in
    let columns_left = into_iter_items c.next-in-loop-lock.new.self in
    let columns = into_iter_items c.loop-lock.rest in
    let is : locks ≡ c.in-Some.lock ∷ locks_left = search rules in
    let has : columns ≡ c.in-Some-next.passes ∷ columns_left = search rules in
    c.requires.each (length c.loop-lock.histories) c.in-Some.lock c.in-Some-next.passes (lock_here c.args.locks.items locks locks_left c.args.columns.items columns columns_left c.loop-lock.histories c.in-Some.lock c.in-Some-next.passes c.loop-lock.invariant is) (column_here c.args.locks.items locks locks_left c.args.columns.items columns columns_left c.loop-lock.histories c.in-Some.lock c.in-Some-next.passes c.loop-lock.invariant is has)

pub loop-lock-preserved : goal.loop-lock-preserved
loop-lock-preserved c =
    let locks_left = into_iter_items c.next.new.self in
    let locks = into_iter_items c.loop-lock.lock-iterator in
    let columns_left = into_iter_items c.next-in-loop-lock.new.self in
    let columns = into_iter_items c.loop-lock.rest in
    let is : locks ≡ c.in-Some.lock ∷ locks_left = search rules in
    let has : columns ≡ c.in-Some-next.passes ∷ columns_left = search rules in
    one_closed c.args.locks.items locks locks_left c.args.columns.items columns columns_left c.loop-lock.histories c.in-Some.lock c.in-Some-next.passes c.loop-lock.invariant is has c.push.new.self c.close_lock.result c.close_lock.ensures c.in_ok-push.ensures.ok
