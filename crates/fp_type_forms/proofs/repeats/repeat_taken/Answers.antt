use Rattle.std.specs.BTreeMap.{is_at}
use Rattle.std.specs.List.{list_any}
use Rattle.std.specs.Ordering.{int_cmp}
use Rattle.std.proofs.Common.{◌≡◌, ◌≤◌, ℤ, List, Some, length, slice_get, refl, sym, ap, subst, ◌∙◌}
use Rattle.std.proofs.lemmas.Option.{slice_get_read}
use Rattle.fp_base.specs.Least.{InSome, IsLeast}
use Rattle.fp_tree.specs.declared.part.EnumConst.{EnumConst}
use Rattle.fp_meaning.specs.declared.item.Item.{Item}
use Rattle.fp_type_forms.specs.Broken.{IsRepeated}
use Rattle.fp_type_forms.specs.Resolved.{Takes}
use Rattle.fp_type_forms.proofs.Repeating.{repeat_none, repeat_next, repeat_all}
use Rattle.fp_type_forms.proofs.Taking.{items_listed, taken_number}
use Rattle.fp_type_forms.proofs.repeats.repeat_taken.Goals as goal

pub loop-position-init : goal.loop-position-init
loop-position-init c source scope = repeat_none source scope c.args.kind.now c.args.marks.now c.args.resolutions.now c.args.next.now c.new-seen.result (λ q. ap (λ (ks : List ℤ). list_any (is_at (int_cmp q)) ks) c.new-seen.ensures.empty)

pub loop-position-preserved : goal.loop-position-preserved
loop-position-preserved c source scope =
    let d = c.args.kind.now in
    let n = c.loop-position.position in
    let slice = c.as_slice-constants.result.now in
    let one = c.index-constants-position.result in
    let at : slice_get d.constants n ≡ Some one =
    ap (λ (xs : List EnumConst). slice_get xs n) (sym c.as_slice-constants.ensures) ∙ slice_get_read slice (length slice) n one refl c.loop-position-test.true c.index-constants-position.is in
    repeat_next source scope d c.args.marks.now c.args.resolutions.now n one c.args.next.now c.loop-position.next c.number_taken-written.new.next c.loop-position.first c.lesser-first.result c.in_ok-again.again
    c.number_for-number.result c.loop-position.seen c.note.new.seen at c.lesser-first.ensures c.in_ok-again.ensures.again c.in_ok-again.ensures.seen (c.loop-position.invariant source scope)
    (taken_number source c.args.marks.now c.args.resolutions.now scope d n one c.loop-position.next c.number_taken-written.new.next c.none_written-implied.result c.number_taken-written.result c.number_for-number.result
    c.none_written-implied.ensures c.number_taken-written.ensures.number c.number_taken-written.ensures.moves c.number_for-number.ensures)

pub returns : goal.returns
returns c source scope =
    let d = c.args.kind.now in
    subst (λ (l : List Item). Takes source c.args.marks.now c.args.resolutions.now l c.args.next.now c.loop-position.next (IsLeast (InSome (IsRepeated source scope d) d.constants) c.loop-position.first)) (sym (items_listed scope d 0 d.constants))
    (repeat_all source scope d c.args.marks.now c.args.resolutions.now c.loop-position.position c.args.next.now c.loop-position.next c.loop-position.first c.loop-position.seen
    (subst (λ (xs : List EnumConst). length xs ≤ c.loop-position.position) c.as_slice-constants.ensures c.loop-position-test.false) (c.loop-position.invariant source scope))
