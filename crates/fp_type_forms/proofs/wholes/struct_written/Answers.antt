use Rattle.std.proofs.Common.{List, flat_map, subst}
use Rattle.fp_tables.specs.declared.kind.Form.TheVariants as form
use Rattle.fp_tables.specs.declared.kind.Field.{Field}
use Rattle.fp_tree.specs.declared.definition.Def.TheVariants as def
use Rattle.fp_meaning.specs.Layout.{expression_items, field_items}
use Rattle.fp_meaning.specs.Names.{in_optional}
use Rattle.fp_type_forms.specs.Written.{FieldsAre, FormIs, IsOnly, type_here}
use Rattle.fp_tree.specs.declared.part.Field.{Field as Member}
use Rattle.fp_type_forms.specs.Resolved.{Takes}
use Rattle.fp_type_forms.proofs.Only.{only_same, only_mapped}
use Rattle.fp_type_forms.proofs.Taking.{taken_as, whole_written}
use Rattle.fp_type_forms.proofs.wholes.struct_written.Goals as goal

pub returns : goal.returns
returns c source h =
    let scope = c.args.scope.now in
    let d = c.args.kind.now in
    let parts = flat_map (field_items scope) d.fields in
    whole_written source c.args.marks.now c.args.resolutions.now (type_here scope d.name (def.Struct d) d.default d.note) (record { name = c.in_ok-name.name; form = c.struct_of-form.result; default = c.in_ok-default.default; note = c.in_ok-note.note })
    parts (in_optional (expression_items 0 scope) d.default) c.args.start c.fields_taken.new.next c.own_taken.new.next c.in_ok-name.ensures c.in_ok-note.ensures
    (taken_as source c.args.marks.now c.args.resolutions.now parts c.args.start c.fields_taken.new.next
    (λ only. only_same (FormIs source scope (def.Struct d)) c.struct_of-form.ensures (only_mapped (FieldsAre source scope d.fields) (λ (xs : List Field). form.Struct xs) c.in_ok-fields.fields only))
    (subst (λ (fs : List Member). Takes source c.args.marks.now c.args.resolutions.now (flat_map (field_items scope) fs) c.args.start c.fields_taken.new.next (IsOnly (FieldsAre source scope fs) c.in_ok-fields.fields))
    c.as_slice.ensures (c.in_ok-fields.ensures source scope)))
    (c.in_ok-default.ensures source scope 0) h
