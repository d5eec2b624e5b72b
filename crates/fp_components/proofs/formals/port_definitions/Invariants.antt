use Rattle.std.proofs.Common.{◌≡◌, map, take}
use Rattle.fp_components.specs.Resolved.{port_def_of}
use Rattle.fp_components.proofs.formals.port_definitions.Given as goal

abbrev pub invariant-loop-definition : goal.invariant-loop-definition
invariant-loop-definition l = l.ports ≡ map port_def_of (take l.definition-index l.definitions)
