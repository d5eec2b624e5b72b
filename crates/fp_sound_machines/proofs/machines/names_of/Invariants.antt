use Rattle.std.proofs.Common.{◌≡◌, map, take}
use Rattle.fp_tables.specs.declared.machine.Named.{Named}
use Rattle.fp_sound_machines.proofs.machines.names_of.Given as goal

abbrev pub invariant-loop-item : goal.invariant-loop-item
invariant-loop-item l = map (λ name. name.now) l.names.items ≡ map (λ (item : Named). item.name) (take l.item-index l.items)
