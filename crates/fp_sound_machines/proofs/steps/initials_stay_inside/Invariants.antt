use Rattle.std.proofs.Common.{◌≡◌, drop}
use Rattle.fp_tables.specs.Lists.{all_from}
use Rattle.fp_tables.specs.Machines.{stays_inside}
use Rattle.fp_sound_machines.proofs.steps.initials_stay_inside.Given as goal

abbrev pub invariant-loop-at : goal.invariant-loop-at
invariant-loop-at l = all_from (stays_inside l.vertices) 0 l.vertices ≡ all_from (stays_inside l.vertices) l.at (drop l.at l.vertices)
