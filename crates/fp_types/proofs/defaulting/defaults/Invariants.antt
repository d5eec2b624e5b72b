use Rattle.fp_types.specs.Defaulted.{DefaultedFirst}
use Rattle.fp_types.proofs.defaulting.defaults.Given as goal

abbrev pub invariant-loop-number : goal.invariant-loop-number
invariant-loop-number l = DefaultedFirst l.types l.order l.number-index l.table.items
