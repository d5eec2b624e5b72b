use Rattle.std.proofs.Common.{◌≡◌, List, Some, length, slice_get, refl, sym, subst}
use Rattle.std.proofs.lemmas.Option.{slice_get_read}
use Rattle.fp_base.specs.Least.{InSome, IsLeast}
use Rattle.fp_tree.specs.declared.part.Formal.{Formal}
use Rattle.fp_meaning.specs.declared.item.Item.{Item}
use Rattle.fp_meaning.specs.Layout.{formal_items}
use Rattle.fp_type_forms.specs.Broken.{BrokenByName}
use Rattle.fp_type_forms.specs.Resolved.{Takes}
use Rattle.fp_type_forms.proofs.Taking.{items_flat}
use Rattle.fp_type_forms.proofs.Breaking.{least_none_taken, least_next_taken, least_all_taken}
use Rattle.fp_type_forms.proofs.faults.formals_fault.Goals as goal

pub loop-formal-init : goal.loop-formal-init
loop-formal-init c source scope = least_none_taken (λ k (p : Formal). BrokenByName source scope p.of) (λ k. formal_items scope) source c.args.marks.now c.args.resolutions.now c.args.formals.now c.args.next.now

pub loop-formal-preserved : goal.loop-formal-preserved
loop-formal-preserved c source scope =
    let all = c.args.formals.now in
    let n = c.loop-formal.formal-index in
    let x = c.formal-item.result in
    let at : slice_get all n ≡ Some x = slice_get_read all (length all) n x refl c.loop-formal-test.true c.formal-item.is in
    least_next_taken (λ k (p : Formal). BrokenByName source scope p.of) (λ k. formal_items scope) source c.args.marks.now c.args.resolutions.now all n x c.args.next.now c.loop-formal.next _ c.loop-formal.first c.lesser-first.result _ at c.lesser-first.ensures
    (c.loop-formal.invariant source scope) (c.name_fault-one.ensures source scope 0)

pub returns : goal.returns
returns c source scope =
    subst (λ (l : List Item). Takes source c.args.marks.now c.args.resolutions.now l c.args.next.now c.loop-formal.next (IsLeast (InSome (λ k (p : Formal). BrokenByName source scope p.of) c.args.formals.now) c.loop-formal.first)) (sym (items_flat (formal_items scope) 0 c.args.formals.now))
    (least_all_taken (λ k (p : Formal). BrokenByName source scope p.of) (λ k. formal_items scope) source c.args.marks.now c.args.resolutions.now c.args.formals.now c.loop-formal.formal-index c.args.next.now c.loop-formal.next c.loop-formal.first
    c.loop-formal-test.false (c.loop-formal.invariant source scope))
