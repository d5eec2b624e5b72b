use Rattle.std.proofs.Common.{◌≡◌, ◌++◌, take}
use Rattle.std.specs.Prelude.{flat_map}
use Rattle.fp_tables.specs.SoundPrograms.{port_priority}
use Rattle.fp_tables.specs.declared.component.Port.{Port}
use Rattle.fp_tables.proofs.waiting.push_ports.Given as goal

abbrev pub invariant-loop-port : goal.invariant-loop-port
invariant-loop-port l = l.priorities.items ≡ l.initial.priorities.items ++ flat_map (λ (port : Port). port_priority port.role) (take l.port-index l.ports)
