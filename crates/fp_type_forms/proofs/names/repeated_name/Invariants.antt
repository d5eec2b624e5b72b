use Rattle.fp_tree.specs.declared.expression.Assignment.{Assignment}
use Rattle.fp_type_forms.proofs.Noting.{NamesFirst}
use Rattle.fp_type_forms.proofs.names.repeated_name.Given as goal

abbrev pub invariant-loop-member : goal.invariant-loop-member
invariant-loop-member l = NamesFirst (λ (m : Assignment). m.name) l.members l.member-index l.first l.seen
