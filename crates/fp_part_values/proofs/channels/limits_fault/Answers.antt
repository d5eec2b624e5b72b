use Rattle.std.proofs.Common.{◌≡◌, List, Some, length, slice_get, refl, sym, subst}
use Rattle.std.proofs.lemmas.Option.{slice_get_read}
use Rattle.fp_base.specs.Least.{InSome, IsLeast}
use Rattle.fp_meaning.specs.declared.item.Item.{Item}
use Rattle.fp_meaning.specs.Layout.{limit_items}
use Rattle.fp_type_forms.specs.Resolved.{Takes}
use Rattle.fp_type_forms.proofs.Breaking.{least_none_taken, least_next_taken, least_all_taken}
use Rattle.fp_type_forms.proofs.Taking.{items_flat}
use Rattle.fp_part_values.specs.Broken.{BrokenByLimit}
use Rattle.fp_part_values.proofs.channels.limits_fault.Goals as goal

pub loop-limit-init : goal.loop-limit-init
loop-limit-init c source scope form wanted =
    least_none_taken (λ k. BrokenByLimit source c.args.types.now scope form) (λ k. limit_items scope) source c.args.marks.now c.args.resolutions.now c.args.limits.now c.args.next.now

pub loop-limit-preserved : goal.loop-limit-preserved
loop-limit-preserved c source scope form wanted =
    let all = c.args.limits.now in
    let n = c.loop-limit.limit-index in
    let x = c.limit-item.result in
    let at : slice_get all n ≡ Some x = slice_get_read all (length all) n x refl c.loop-limit-test.true c.limit-item.is in
    least_next_taken (λ k. BrokenByLimit source c.args.types.now scope form) (λ k. limit_items scope) source c.args.marks.now c.args.resolutions.now all n x c.args.next.now c.loop-limit.next _ c.loop-limit.first
    c.lesser-first.result _ at c.lesser-first.ensures (c.loop-limit.invariant source scope form wanted) (c.limit_fault-one.ensures source scope form wanted)

pub returns : goal.returns
returns c source scope form wanted =
    let all = c.args.limits.now in
    subst (λ (l : List Item). Takes source c.args.marks.now c.args.resolutions.now l c.args.next.now c.loop-limit.next (IsLeast (InSome (λ k. BrokenByLimit source c.args.types.now scope form) all) c.loop-limit.first))
    (sym (items_flat (limit_items scope) 0 all))
    (least_all_taken (λ k. BrokenByLimit source c.args.types.now scope form) (λ k. limit_items scope) source c.args.marks.now c.args.resolutions.now all c.loop-limit.limit-index c.args.next.now c.loop-limit.next c.loop-limit.first
    c.loop-limit-test.false (c.loop-limit.invariant source scope form wanted))
