use Rattle.std.proofs.Common.{◌≡◌, ◌++◌, drop, false}
use Rattle.fp_dictionary.specs.Dictionary.{types_data}
use Rattle.fp_dictionary.specs.Printed.{items_printed}
use Rattle.fp_dictionary.proofs.types.push_all.Given as goal

abbrev pub invariant-loop-at : goal.invariant-loop-at
invariant-loop-at l =
    l.out ++ items_printed l.later (types_data l.types (drop l.at-index l.positions)) ≡ l.initial.out ++ items_printed false (types_data l.types l.positions)
