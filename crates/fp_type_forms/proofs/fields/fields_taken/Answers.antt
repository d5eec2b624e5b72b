use Rattle.std.proofs.Common.{◌≡◌, List, Some, length, slice_get, refl, sym, ap, subst}
use Rattle.std.proofs.lemmas.Option.{slice_get_read}
use Rattle.fp_tables.specs.declared.kind.Field.{Field}
use Rattle.fp_meaning.specs.declared.item.Item.{Item}
use Rattle.fp_meaning.specs.Layout.{field_items}
use Rattle.fp_type_forms.specs.Written.{FieldIs, FieldsAre, IsOnly}
use Rattle.fp_type_forms.specs.Resolved.{Takes}
use Rattle.fp_type_forms.proofs.Taking.{first_taken, next_taken, whole_taken, items_flat}
use Rattle.fp_type_forms.proofs.fields.fields_taken.Goals as goal

pub loop-field-init : goal.loop-field-init
loop-field-init c source scope =
    first_taken (λ position. FieldIs source scope) (λ position. field_items scope) source c.args.marks.now c.args.resolutions.now c.args.fields.now c.args.next.now c.args.next.now (Some c.new.result) refl (ap (λ (xs : List Field). Some xs) c.new.ensures)

pub loop-field-preserved : goal.loop-field-preserved
loop-field-preserved c source scope =
    let all = c.args.fields.now in
    let n = c.loop-field.field-index in
    let field = c.field-item.result in
    let at : slice_get all n ≡ Some field = slice_get_read all (length all) n field refl c.loop-field-test.true c.field-item.is in
    next_taken (λ position. FieldIs source scope) (λ position. field_items scope) source c.args.marks.now c.args.resolutions.now all n field c.args.next.now c.loop-field.next _
    c.loop-field.row c.in_ok-row.row c.in_ok-one.one at c.in_ok-row.ensures (c.loop-field.invariant source scope) (c.in_ok-one.ensures source scope)

pub returns : goal.returns
returns c source scope =
    subst (λ (l : List Item). Takes source c.args.marks.now c.args.resolutions.now l c.args.next.now c.loop-field.next (IsOnly (FieldsAre source scope c.args.fields.now) c.loop-field.row)) (sym (items_flat (field_items scope) 0 c.args.fields.now))
    (whole_taken (λ position. FieldIs source scope) (λ position. field_items scope) source c.args.marks.now c.args.resolutions.now c.args.fields.now c.loop-field.field-index c.args.next.now c.loop-field.next c.loop-field.row
    c.loop-field-test.false (c.loop-field.invariant source scope))
