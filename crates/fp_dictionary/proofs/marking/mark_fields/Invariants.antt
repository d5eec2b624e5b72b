use Rattle.std.proofs.Common.{◌≡◌, drop, map}
use Rattle.fp_tables.specs.declared.kind.Field.{Field}
use Rattle.fp_dictionary.specs.Marks.{marks_of, with_marks}
use Rattle.fp_dictionary.proofs.marking.mark_fields.Given as goal

abbrev pub invariant-loop-field : goal.invariant-loop-field
invariant-loop-field l = with_marks (marks_of l.marks) (map (λ (f : Field). f.kind) (drop l.field-index l.fields)) ≡ with_marks (marks_of l.initial.marks) (map (λ (f : Field). f.kind) l.fields)
