use Rattle.std.proofs.Common.{◌≡◌, ◌++◌, List, map, take}
use Rattle.fp_written_parts.specs.declared.port.WrittenPort.{WrittenPort}
use Rattle.fp_component_rules.specs.Firsts.{of_each_name}
use Rattle.fp_component_rules.proofs.gift.with_ports.Given as goal

abbrev pub invariant-loop-port : goal.invariant-loop-port
invariant-loop-port l = (all : List WrittenPort) → l.fn.before ≡ of_each_name all → l.firsts ≡ of_each_name (all ++ map (λ port. port.now) (take l.port-index l.ports))
