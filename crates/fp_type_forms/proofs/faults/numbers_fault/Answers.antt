use Rattle.std.proofs.Common.{◌≡◌, ◌≤◌, ℕ, [], ◌∷◌, List, Some, length, slice_get, refl, sym, ap, subst, ◌∙◌}
use Rattle.std.proofs.lemmas.Option.{slice_get_read}
use Rattle.fp_base.specs.Least.{InSome, IsLeast}
use Rattle.fp_tree.specs.declared.part.EnumConst.{EnumConst}
use Rattle.fp_meaning.specs.declared.item.Item.{Item}
use Rattle.fp_meaning.specs.declared.item.Item.TheVariants as item
use Rattle.fp_meaning.specs.Sites.{entry}
use Rattle.fp_type_forms.specs.Broken.{BrokenByNumber}
use Rattle.fp_type_forms.specs.Resolved.{Takes}
use Rattle.fp_type_forms.proofs.Taking.{items_listed}
use Rattle.fp_type_forms.proofs.Breaking.{least_none_taken, least_next_taken, least_all_taken}
use Rattle.fp_type_forms.proofs.faults.numbers_fault.Goals as goal

pub loop-constant-init : goal.loop-constant-init
loop-constant-init c source scope = least_none_taken (λ k. BrokenByNumber source scope) (λ (k : ℕ) (x : EnumConst). item.Enumerated (entry scope c.args.kind.now k x) ∷ []) source c.args.marks.now c.args.resolutions.now c.args.kind.now.constants c.args.next.now

pub loop-constant-preserved : goal.loop-constant-preserved
loop-constant-preserved c source scope =
    let all = c.args.kind.now.constants in
    let n = c.loop-constant.constant-index in
    let x = c.constant-item.result in
    let at : slice_get all n ≡ Some x = ap (λ (l : List EnumConst). slice_get l n) (sym c.as_slice-constants.ensures) ∙ slice_get_read c.as_slice-constants.result.now (length c.as_slice-constants.result.now) n x refl c.loop-constant-test.true c.constant-item.is in
    least_next_taken (λ k. BrokenByNumber source scope) (λ (k : ℕ) (x : EnumConst). item.Enumerated (entry scope c.args.kind.now k x) ∷ []) source c.args.marks.now c.args.resolutions.now all n x c.args.next.now c.loop-constant.next _ c.loop-constant.first c.lesser-first.result _ at c.lesser-first.ensures
    (c.loop-constant.invariant source scope) (c.constant_fault-one.ensures source scope c.args.kind.now n)

pub returns : goal.returns
returns c source scope =
    subst (λ (l : List Item). Takes source c.args.marks.now c.args.resolutions.now l c.args.next.now c.loop-constant.next (IsLeast (InSome (λ k. BrokenByNumber source scope) c.args.kind.now.constants) c.loop-constant.first)) (sym (items_listed scope c.args.kind.now 0 c.args.kind.now.constants))
    (least_all_taken (λ k. BrokenByNumber source scope) (λ (k : ℕ) (x : EnumConst). item.Enumerated (entry scope c.args.kind.now k x) ∷ []) source c.args.marks.now c.args.resolutions.now c.args.kind.now.constants c.loop-constant.constant-index c.args.next.now c.loop-constant.next c.loop-constant.first
    (subst (λ (l : List EnumConst). length l ≤ c.loop-constant.constant-index) c.as_slice-constants.ensures c.loop-constant-test.false) (c.loop-constant.invariant source scope))
