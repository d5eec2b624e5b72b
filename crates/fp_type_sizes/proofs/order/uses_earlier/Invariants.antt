use Rattle.std.proofs.Common.{◌≡◌, drop}
use Rattle.fp_tables.specs.Lists.{all_from, if_some}
use Rattle.fp_type_sizes.specs.declared.written.WrittenType.{WrittenType}
use Rattle.fp_type_sizes.specs.Earlier.{form_uses_earlier, uses_earlier}
use Rattle.fp_type_sizes.proofs.order.uses_earlier.Given as goal

abbrev pub invariant-loop-at : goal.invariant-loop-at
invariant-loop-at l = uses_earlier l.types ≡ all_from (λ at (w : WrittenType). if_some (form_uses_earlier at) w.form) l.at (drop l.at l.types)
