use Rattle.std.proofs.Common.{◌≡◌, ◌||◌, ℕ, List, map, take}
use Rattle.fp_component_rules.specs.Firsts.{has_port}
use Rattle.fp_component_rules.proofs.repeats.with_ports.Given as goal

abbrev pub invariant-loop-port : goal.invariant-loop-port
invariant-loop-port l = (name : List ℕ) → has_port name l.seen ≡ (has_port name l.fn.before || has_port name (map (λ port. port.now) (take l.port-index l.ports)))
