use Rattle.std.proofs.Common.{◌≡◌, List, Some, length, slice_get, refl, sym, subst}
use Rattle.std.proofs.lemmas.Option.{slice_get_read}
use Rattle.fp_meaning.specs.declared.item.Item.{Item}
use Rattle.fp_meaning.specs.Layout.{formal_items}
use Rattle.fp_type_forms.proofs.Taking.{items_flat}
use Rattle.fp_part_values.specs.Passed.{Passes}
use Rattle.fp_part_values.proofs.Passed.{passed_all, passed_as, passed_next, passed_nothing}
use Rattle.fp_part_values.proofs.passing.pass_each.Goals as goal

pub loop-formal-init : goal.loop-formal-init
loop-formal-init c source scope = passed_nothing source c.args.marks.now c.args.resolutions.now c.args.next.now

pub loop-formal-preserved : goal.loop-formal-preserved
loop-formal-preserved c source scope =
    let all = c.args.formals.now in
    let n = c.loop-formal.formal-index in
    let x = c.formal-item.result in
    let at : slice_get all n ≡ Some x = slice_get_read all (length all) n x refl c.loop-formal-test.true c.formal-item.is in
    passed_next source c.args.marks.now c.args.resolutions.now (λ k. formal_items scope) all n x c.args.next.now c.loop-formal.next c.kind_taken.new.next at (c.loop-formal.invariant source scope)
    (passed_as source c.args.marks.now c.args.resolutions.now (formal_items scope x) c.loop-formal.next c.kind_taken.new.next (c.kind_taken.ensures source scope 0))

pub returns : goal.returns
returns c source scope =
    let all = c.args.formals.now in
    subst (λ (l : List Item). Passes source c.args.marks.now c.args.resolutions.now l c.args.next.now c.loop-formal.next) (sym (items_flat (formal_items scope) 0 all))
    (passed_all source c.args.marks.now c.args.resolutions.now (λ k. formal_items scope) all c.loop-formal.formal-index c.args.next.now c.loop-formal.next c.loop-formal-test.false (c.loop-formal.invariant source scope))
