use Rattle.std.proofs.Common.{All}
use Rattle.fp_plant.specs.Planted.{Gives}
use Rattle.fp_rounds.specs.Changed.{EachChanged}
use Rattle.fp_rounds.specs.Going.{GoesOn}
use Rattle.fp_rounds.proofs.running.work_all.Given as goal

abbrev pub invariant-loop : goal.invariant-loop
invariant-loop g l =
    (goal.iterator-loop g).can_next l.iterator' × (goal.iterator-loop g).is_finite l.iterator'
    × All (λ r. Gives l.plant r.hand) l.workers
    × EachChanged (λ old new. GoesOn l.plant old.hand new.hand) l.fn.workers l.workers
