use Rattle.std.proofs.Common.{◌≡◌, drop}
use Rattle.std.specs.List.{list_all}
use Rattle.fp_sound_machines.specs.SoundMachine.{is_sound_machine}
use Rattle.fp_sound_machines.proofs.bodies.machines_are_sound.Given as goal

abbrev pub invariant-loop-machine : goal.invariant-loop-machine
invariant-loop-machine l = list_all (is_sound_machine l.types) l.machines ≡ list_all (is_sound_machine l.types) (drop l.machine-index l.machines)
