use Rattle.fp_tree.specs.declared.source.Source.{Source}
use Rattle.fp_tree.specs.declared.type_name.TypeForm.{TypeForm}
use Rattle.fp_meaning.specs.Layout.{limit_items}
use Rattle.fp_meaning.specs.Names.{Path}
use Rattle.fp_type_forms.specs.Written.{IsOnly}
use Rattle.fp_type_forms.proofs.Breaking.{LeastFirst}
use Rattle.fp_part_values.specs.Broken.{BrokenByLimit, IntegerIs}
use Rattle.fp_part_values.proofs.channels.limits_fault.Given as goal

abbrev pub invariant-loop-limit : goal.invariant-loop-limit
invariant-loop-limit l =
    (source : Source) (scope : Path) (form : TypeForm) → IsOnly (IntegerIs source l.types scope form) l.kind
    → LeastFirst (λ k. BrokenByLimit source l.types scope form) (λ k. limit_items scope) source l.marks l.resolutions l.limits l.limit-index l.initial.next l.next l.first
