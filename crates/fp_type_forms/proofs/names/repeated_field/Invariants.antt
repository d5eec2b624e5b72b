use Rattle.fp_tree.specs.declared.part.Field.{Field as Member}
use Rattle.fp_type_forms.proofs.Noting.{NamesFirst}
use Rattle.fp_type_forms.proofs.names.repeated_field.Given as goal

abbrev pub invariant-loop-field : goal.invariant-loop-field
invariant-loop-field l = NamesFirst (λ (m : Member). m.name) l.fields l.field-index l.first l.seen
