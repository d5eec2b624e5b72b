use Rattle.std.proofs.Common.{◌≡◌, ◌≤◌, ℕ, [], ◌∷◌, List, Some, length, slice_get, refl, sym, ap, subst, ◌∙◌}
use Rattle.std.proofs.lemmas.Option.{slice_get_read}
use Rattle.fp_base.proofs.Calculus.{least_along}
use Rattle.fp_base.specs.Least.{InSome, IsLeast}
use Rattle.fp_base.specs.declared.place.Place.{Place}
use Rattle.fp_tree.specs.declared.part.EnumConst.{EnumConst}
use Rattle.fp_meaning.specs.declared.item.Item.{Item}
use Rattle.fp_meaning.specs.declared.item.Item.TheVariants as item
use Rattle.fp_meaning.specs.Sites.{entry}
use Rattle.fp_type_forms.specs.Resolved.{Takes}
use Rattle.fp_type_forms.specs.Tested.{IsBeyond, beyond_fault}
use Rattle.fp_type_forms.proofs.Breaking.{least_none_taken, least_next_taken, least_all_taken}
use Rattle.fp_type_forms.proofs.Represented.{beyond_least}
use Rattle.fp_type_forms.proofs.Taking.{items_listed, taken_as, taken_number}
use Rattle.fp_type_forms.proofs.representations.beyond_taken.Goals as goal

pub loop-position-init : goal.loop-position-init
loop-position-init c source scope =
    least_none_taken (IsBeyond source scope c.args.range c.args.kind.now) (λ (k : ℕ) (x : EnumConst). item.Enumerated (entry scope c.args.kind.now k x) ∷ []) source c.args.marks.now c.args.resolutions.now c.args.kind.now.constants c.args.next.now

pub loop-position-preserved : goal.loop-position-preserved
loop-position-preserved c source scope =
    let d = c.args.kind.now in
    let n = c.loop-position.position in
    let slice = c.as_slice-constants.result.now in
    let one = c.index-constants-position.result in
    let at : slice_get d.constants n ≡ Some one =
    ap (λ (xs : List EnumConst). slice_get xs n) (sym c.as_slice-constants.ensures) ∙ slice_get_read slice (length slice) n one refl c.loop-position-test.true c.index-constants-position.is in
    least_next_taken (IsBeyond source scope c.args.range d) (λ (k : ℕ) (x : EnumConst). item.Enumerated (entry scope d k x) ∷ []) source c.args.marks.now c.args.resolutions.now d.constants n one
    c.args.next.now c.loop-position.next c.number_taken-written.new.next c.loop-position.first c.lesser-first.result c.beyond_fault-one.result at c.lesser-first.ensures (c.loop-position.invariant source scope)
    (taken_as source c.args.marks.now c.args.resolutions.now (item.Enumerated (entry scope d n one) ∷ []) c.loop-position.next c.number_taken-written.new.next
    (λ only. least_along (sym (c.beyond_fault-one.ensures ∙ ap (λ (p : Place). beyond_fault p c.args.range c.number_for-number.result) c.place_of.ensures))
    (beyond_least source scope d n one c.args.range c.number_for-number.result only))
    (taken_number source c.args.marks.now c.args.resolutions.now scope d n one c.loop-position.next c.number_taken-written.new.next c.none_written-implied.result c.number_taken-written.result c.number_for-number.result
    c.none_written-implied.ensures c.number_taken-written.ensures.number c.number_taken-written.ensures.moves c.number_for-number.ensures))

pub returns : goal.returns
returns c source scope =
    let d = c.args.kind.now in
    subst (λ (l : List Item). Takes source c.args.marks.now c.args.resolutions.now l c.args.next.now c.loop-position.next (IsLeast (InSome (IsBeyond source scope c.args.range d) d.constants) c.loop-position.first)) (sym (items_listed scope d 0 d.constants))
    (least_all_taken (IsBeyond source scope c.args.range d) (λ (k : ℕ) (x : EnumConst). item.Enumerated (entry scope d k x) ∷ []) source c.args.marks.now c.args.resolutions.now d.constants c.loop-position.position c.args.next.now c.loop-position.next c.loop-position.first
    (subst (λ (l : List EnumConst). length l ≤ c.loop-position.position) c.as_slice-constants.ensures c.loop-position-test.false) (c.loop-position.invariant source scope))
