use Rattle.std.proofs.Common.{◌≡◌, ◌++◌, map}
use Rattle.std.specs.Vec.Iter.{into_iter_items}
use Rattle.fp_actor.specs.Acting.{Acting}
use Rattle.fp_running.proofs.closing.into_traces.Given as goal

abbrev pub invariant-loop-actor : goal.invariant-loop-actor
invariant-loop-actor l =
    l.rows ++ map (λ (a : Acting). a.trace) (into_iter_items l.actor-iterator) ≡ map (λ (a : Acting). a.trace) l.fn.actors.items
