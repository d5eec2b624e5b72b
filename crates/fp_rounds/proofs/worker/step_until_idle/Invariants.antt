use Rattle.fp_plant.specs.Planted.{Gives}
use Rattle.fp_rounds.specs.Going.{GoesOn}
use Rattle.fp_rounds.proofs.worker.step_until_idle.Given as goal

abbrev pub invariant-loop : goal.invariant-loop
invariant-loop g l =
    (goal.iterator-loop g).can_next l.iterator' × (goal.iterator-loop g).is_finite l.iterator' × Gives l.plant l.hand × GoesOn l.plant l.fn.hand l.hand
