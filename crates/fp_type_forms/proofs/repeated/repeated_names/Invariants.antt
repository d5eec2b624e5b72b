use Rattle.fp_base.specs.Least.{InFirst, IsLeast}
use Rattle.fp_type_forms.specs.Tested.{NamesByItem}
use Rattle.fp_type_forms.proofs.repeated.repeated_names.Given as goal

abbrev pub invariant-loop-item : goal.invariant-loop-item
invariant-loop-item l = IsLeast (InFirst l.item-index (λ k. NamesByItem) l.items) l.first
