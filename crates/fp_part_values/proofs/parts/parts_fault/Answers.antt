use Rattle.std.proofs.Common.{◌≡◌, List, Some, length, slice_get, refl, sym, subst}
use Rattle.std.proofs.lemmas.Option.{slice_get_read}
use Rattle.fp_base.specs.Least.{InSome, IsLeast}
use Rattle.fp_meaning.specs.declared.item.Item.{Item}
use Rattle.fp_meaning.specs.Layout.{own_items}
use Rattle.fp_type_forms.specs.Resolved.{Takes}
use Rattle.fp_type_forms.proofs.Breaking.{least_none_taken, least_next_taken, least_all_taken}
use Rattle.fp_type_forms.proofs.Taking.{items_flat}
use Rattle.fp_part_values.specs.Broken.{BrokenByPart}
use Rattle.fp_part_values.proofs.parts.parts_fault.Goals as goal

pub loop-part-init : goal.loop-part-init
loop-part-init c source scope =
    least_none_taken (λ k. BrokenByPart source c.args.types.now scope) (λ k. own_items scope) source c.args.marks.now c.args.resolutions.now c.args.parts.now c.args.next.now

pub loop-part-preserved : goal.loop-part-preserved
loop-part-preserved c source scope =
    let all = c.args.parts.now in
    let n = c.loop-part.part-index in
    let x = c.part-item.result in
    let at : slice_get all n ≡ Some x = slice_get_read all (length all) n x refl c.loop-part-test.true c.part-item.is in
    least_next_taken (λ k. BrokenByPart source c.args.types.now scope) (λ k. own_items scope) source c.args.marks.now c.args.resolutions.now all n x c.args.next.now c.loop-part.next _ c.loop-part.first
    c.lesser-first.result _ at c.lesser-first.ensures (c.loop-part.invariant source scope) (c.part_fault-one.ensures source scope)

pub returns : goal.returns
returns c source scope =
    let all = c.args.parts.now in
    subst (λ (l : List Item). Takes source c.args.marks.now c.args.resolutions.now l c.args.next.now c.loop-part.next (IsLeast (InSome (λ k. BrokenByPart source c.args.types.now scope) all) c.loop-part.first))
    (sym (items_flat (own_items scope) 0 all))
    (least_all_taken (λ k. BrokenByPart source c.args.types.now scope) (λ k. own_items scope) source c.args.marks.now c.args.resolutions.now all c.loop-part.part-index c.args.next.now c.loop-part.next c.loop-part.first
    c.loop-part-test.false (c.loop-part.invariant source scope))
