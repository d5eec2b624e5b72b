use Rattle.fp_tree.specs.declared.source.Source.{Source}
use Rattle.fp_meaning.specs.Layout.{field_items}
use Rattle.fp_meaning.specs.Names.{Path}
use Rattle.fp_type_forms.specs.Written.{FieldIs}
use Rattle.fp_type_forms.proofs.Taking.{TakesFirst}
use Rattle.fp_type_forms.proofs.fields.fields_taken.Given as goal

abbrev pub invariant-loop-field : goal.invariant-loop-field
invariant-loop-field l =
    (source : Source) (scope : Path)
    → TakesFirst (λ position. FieldIs source scope) (λ position. field_items scope) source l.marks l.resolutions l.fields l.field-index l.initial.next l.next l.row
