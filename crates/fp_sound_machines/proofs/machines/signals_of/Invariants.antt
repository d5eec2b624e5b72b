use Rattle.std.proofs.Common.{◌≡◌, map, take}
use Rattle.fp_tables.specs.declared.machine.On.{On}
use Rattle.fp_sound_machines.proofs.machines.signals_of.Given as goal

abbrev pub invariant-loop-on : goal.invariant-loop-on
invariant-loop-on l = l.signals.items ≡ map (λ (on : On). on.signal) (take l.on-index l.transitions)
