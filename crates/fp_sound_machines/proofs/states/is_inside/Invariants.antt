use Rattle.std.proofs.Common.{◌≡◌, ◌-◌, length}
use Rattle.fp_tables.specs.Positions.{is_inside}
use Rattle.fp_sound_machines.proofs.states.is_inside.Given as goal

abbrev pub invariant-loop : goal.invariant-loop
invariant-loop l = is_inside l.vertices (length l.vertices) l.vertex l.state ≡ is_inside l.vertices (length l.vertices - l.counter) l.at l.state
