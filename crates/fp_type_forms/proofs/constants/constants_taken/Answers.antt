use Rattle.std.proofs.Common.{◌≡◌, ℕ, List, [], ◌∷◌, Some, length, slice_get, ◌≤◌, ◌∙◌, refl, sym, ap, subst}
use Rattle.std.proofs.lemmas.Option.{slice_get_read}
use Rattle.fp_tree.specs.declared.part.EnumConst.{EnumConst}
use Rattle.fp_tables.specs.declared.kind.Constant.{Constant}
use Rattle.fp_meaning.specs.declared.item.Item.{Item}
use Rattle.fp_meaning.specs.declared.item.Item.TheVariants as item
use Rattle.fp_meaning.specs.Sites.{entry}
use Rattle.fp_type_forms.specs.Written.{ConstantsAre, EnumeratedIs, IsOnly}
use Rattle.fp_type_forms.specs.Resolved.{Takes}
use Rattle.fp_type_forms.proofs.Taking.{first_taken, next_taken, whole_taken, items_listed}
use Rattle.fp_type_forms.proofs.constants.constants_taken.Goals as goal

pub loop-position-init : goal.loop-position-init
loop-position-init c source scope named =
    first_taken (EnumeratedIs source scope c.args.kind.now) (λ (n : ℕ) (x : EnumConst). item.Enumerated (entry scope c.args.kind.now n x) ∷ []) source c.args.marks.now c.args.resolutions.now c.args.kind.now.constants c.args.next.now c.args.next.now (Some c.new.result) refl (ap (λ (xs : List Constant). Some xs) c.new.ensures)

pub loop-position-preserved : goal.loop-position-preserved
loop-position-preserved c source scope named =
    let all = c.args.kind.now.constants in
    let n = c.loop-position.position in
    let slice = c.as_slice-constants.result.now in
    let one = c.index-constants-position.result in
    let at : slice_get all n ≡ Some one =
    ap (λ (xs : List EnumConst). slice_get xs n) (sym c.as_slice-constants.ensures) ∙ slice_get_read slice (length slice) n one refl c.loop-position-test.true c.index-constants-position.is in
    next_taken (EnumeratedIs source scope c.args.kind.now) (λ (n : ℕ) (x : EnumConst). item.Enumerated (entry scope c.args.kind.now n x) ∷ []) source c.args.marks.now c.args.resolutions.now all n one c.args.next.now c.loop-position.next _
    c.loop-position.row c.in_ok-row.row c.in_ok-one.one at c.in_ok-row.ensures (c.loop-position.invariant source scope named)
    (c.in_ok-one.ensures source scope c.args.kind.now c.none_written-implied.ensures named)

pub returns : goal.returns
returns c source scope named =
    let all = c.args.kind.now.constants in
    subst (λ (l : List Item). Takes source c.args.marks.now c.args.resolutions.now l c.args.next.now c.loop-position.next (IsOnly (ConstantsAre source scope c.args.kind.now all) c.loop-position.row)) (sym (items_listed scope c.args.kind.now 0 all))
    (whole_taken (EnumeratedIs source scope c.args.kind.now) (λ (n : ℕ) (x : EnumConst). item.Enumerated (entry scope c.args.kind.now n x) ∷ []) source c.args.marks.now c.args.resolutions.now all c.loop-position.position c.args.next.now c.loop-position.next c.loop-position.row
    (subst (λ (xs : List EnumConst). length xs ≤ c.loop-position.position) c.as_slice-constants.ensures c.loop-position-test.false) (c.loop-position.invariant source scope named))
