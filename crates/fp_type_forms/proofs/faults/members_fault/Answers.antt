use Rattle.std.proofs.Common.{◌≡◌, List, Some, length, slice_get, refl, sym, subst}
use Rattle.std.proofs.lemmas.Option.{slice_get_read}
use Rattle.fp_base.specs.Least.{InSome, IsLeast}
use Rattle.fp_meaning.specs.declared.item.Item.{Item}
use Rattle.fp_meaning.specs.Layout.{field_items}
use Rattle.fp_type_forms.specs.Broken.{BrokenByMember}
use Rattle.fp_type_forms.specs.Resolved.{Takes}
use Rattle.fp_type_forms.proofs.Taking.{items_flat}
use Rattle.fp_type_forms.proofs.Breaking.{least_none_taken, least_next_taken, least_all_taken}
use Rattle.fp_type_forms.proofs.faults.members_fault.Goals as goal

pub loop-field-init : goal.loop-field-init
loop-field-init c source scope = least_none_taken (λ k. BrokenByMember source scope) (λ k. field_items scope) source c.args.marks.now c.args.resolutions.now c.args.fields.now c.args.next.now

pub loop-field-preserved : goal.loop-field-preserved
loop-field-preserved c source scope =
    let all = c.args.fields.now in
    let n = c.loop-field.field-index in
    let x = c.field-item.result in
    let at : slice_get all n ≡ Some x = slice_get_read all (length all) n x refl c.loop-field-test.true c.field-item.is in
    least_next_taken (λ k. BrokenByMember source scope) (λ k. field_items scope) source c.args.marks.now c.args.resolutions.now all n x c.args.next.now c.loop-field.next _ c.loop-field.first c.lesser-first.result _ at c.lesser-first.ensures
    (c.loop-field.invariant source scope) (c.member_fault-one.ensures source scope)

pub returns : goal.returns
returns c source scope =
    subst (λ (l : List Item). Takes source c.args.marks.now c.args.resolutions.now l c.args.next.now c.loop-field.next (IsLeast (InSome (λ k. BrokenByMember source scope) c.args.fields.now) c.loop-field.first)) (sym (items_flat (field_items scope) 0 c.args.fields.now))
    (least_all_taken (λ k. BrokenByMember source scope) (λ k. field_items scope) source c.args.marks.now c.args.resolutions.now c.args.fields.now c.loop-field.field-index c.args.next.now c.loop-field.next c.loop-field.first
    c.loop-field-test.false (c.loop-field.invariant source scope))
