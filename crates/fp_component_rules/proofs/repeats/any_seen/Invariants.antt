use Rattle.std.proofs.Common.{◌≡◌, take}
use Rattle.std.specs.List.{list_any}
use Rattle.fp_component_rules.specs.Firsts.{has_port}
use Rattle.fp_component_rules.proofs.repeats.any_seen.Given as goal

abbrev pub invariant-loop-port : goal.invariant-loop-port
invariant-loop-port l = l.found ≡ list_any (λ port. has_port port.now.name l.seen) (take l.port-index l.ports)
