use Rattle.std.proofs.Common.{◌≡◌, drop}
use Rattle.std.specs.Ordering.{nat_cmp}
use Rattle.std.specs.BTreeSet.{contains}
use Rattle.fp_tables.specs.Lists.{all_from}
use Rattle.fp_tables.specs.declared.component.Param.{Param}
use Rattle.fp_sound_model.proofs.parameters.each_is_among.Given as goal

abbrev pub invariant-loop-at : goal.invariant-loop-at
invariant-loop-at l =
    all_from (λ at (_ : Param). contains nat_cmp l.numbers at) 0 l.params ≡ all_from (λ at (_ : Param). contains nat_cmp l.numbers at) l.at-counter (drop l.at-counter l.params)
