use Rattle.std.proofs.Common.{◌≡◌, Some, length, slice_get, refl}
use Rattle.std.proofs.lemmas.Option.{slice_get_read}
use Rattle.fp_tree.specs.declared.part.Field.{Field as Member}
use Rattle.fp_type_forms.proofs.Noting.{names_none, names_next, names_all}
use Rattle.fp_type_forms.proofs.names.repeated_field.Goals as goal

pub loop-field-init : goal.loop-field-init
loop-field-init c = names_none (λ (m : Member). m.name) c.args.fields.now c.new-seen.result c.new-seen.ensures.empty

pub loop-field-preserved : goal.loop-field-preserved
loop-field-preserved c =
    let all = c.args.fields.now in
    let n = c.loop-field.field-index in
    let x = c.field-item.result in
    let at : slice_get all n ≡ Some x = slice_get_read all (length all) n x refl c.loop-field-test.true c.field-item.is in
    names_next (λ (m : Member). m.name) all n x c.loop-field.first c.lesser-first.result c.in_ok-again.again c.loop-field.seen c.note.new.seen at c.lesser-first.ensures c.in_ok-again.ensures.again
    c.in_ok-again.ensures.seen c.loop-field.invariant

pub returns : goal.returns
returns c = names_all (λ (m : Member). m.name) c.args.fields.now c.loop-field.field-index c.loop-field.first c.loop-field.seen c.loop-field-test.false c.loop-field.invariant
