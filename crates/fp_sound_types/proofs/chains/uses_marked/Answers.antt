use Rattle.std.proofs.Common.{◌∙◌, ap, sym, List}
use Rattle.std.specs.List.{list_any}
use Rattle.fp_sound_types.specs.Marks.{is_marked, uses_marked}
use Rattle.fp_tables.specs.declared.kind.Field.{Field}
use Rattle.fp_sound_types.proofs.Chained.{any_map}
use Rattle.fp_sound_types.proofs.chains.uses_marked.Goals as goal

pub returns-in-Struct : goal.returns-in-Struct
returns-in-Struct c =
    let marks = c.args.marks.now in
    c.any_is_marked.ensures ∙ ap (λ (fields : List Field). list_any (λ (field : Field). is_marked marks field.kind) fields) c.as_slice.ensures
    ∙ any_map (is_marked marks) (λ (field : Field). field.kind) c.in-Struct.fields
    ∙ sym (ap (uses_marked marks c.args.constants) c.in-Struct.is)
