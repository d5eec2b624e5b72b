use Rattle.std.proofs.Common.{◌≡◌, take, map}
use Rattle.std.specs.Prelude.{option_map}
use Rattle.fp_tables.specs.declared.kind.Kind.{Kind}
use Rattle.fp_tables.specs.Machines.{target}
use Rattle.fp_machines.specs.Numbers.{type_number}
use Rattle.fp_machines.proofs.typing.type_numbers.Given as goal

abbrev pub invariant-loop-kind : goal.invariant-loop-kind
invariant-loop-kind l = l.numbers ≡ map (option_map (λ (k : Kind). type_number (target l.types k))) (take l.kind-index l.kinds)
