use Rattle.std.proofs.Common.{◌≡◌, drop}
use Rattle.std.specs.List.{list_all}
use Rattle.fp_tables.specs.Machines.{on_is_given}
use Rattle.fp_sound_machines.proofs.steps.transitions_are_given.Given as goal

abbrev pub invariant-loop-on : goal.invariant-loop-on
invariant-loop-on l = list_all (on_is_given l.types l.machine) l.transitions ≡ list_all (on_is_given l.types l.machine) (drop l.on-index l.transitions)
