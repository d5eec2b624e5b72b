use Rattle.fp_base.specs.Least.{InFirst, IsLeast}
use Rattle.fp_tree.specs.declared.expression.Assignment.{Assignment}
use Rattle.fp_type_forms.specs.Broken.{RepeatsIn}
use Rattle.fp_type_forms.proofs.expressions.+naming.Given as goal

abbrev pub invariant-in_list-loop-item : goal.invariant-in_list-loop-item
invariant-in_list-loop-item l = IsLeast (InFirst l.item-index (λ k. RepeatsIn) l.items) l.first

abbrev pub invariant-in_struct-loop-member : goal.invariant-in_struct-loop-member
invariant-in_struct-loop-member l = IsLeast (InFirst l.member-index (λ k (m : Assignment). RepeatsIn m.value) l.members) l.first
