use Rattle.std.proofs.Common.{◌≡◌, ℕ, List, Some, length, slice_get, refl, sym, ap, ◌∙◌, subst}
use Rattle.std.proofs.lemmas.Option.{slice_get_read}
use Rattle.fp_base.proofs.Calculus.{least_along}
use Rattle.fp_base.proofs.Elements.{least_first_none, least_first_next, least_in_one, least_of_all}
use Rattle.fp_base.proofs.Options.{if_ok_then}
use Rattle.fp_base.specs.Least.{InSome, IsLeast}
use Rattle.fp_tree.specs.declared.expression.Expr.{Expr}
use Rattle.fp_tree.specs.declared.expression.Form.TheVariants.{Minus, Parentheses, Binary, Array, Struct}
use Rattle.fp_tree.specs.declared.expression.Assignment.{Assignment}
use Rattle.fp_type_forms.specs.Broken.{RepeatsIn}
use Rattle.fp_type_forms.proofs.Parted.{number_arm, float_arm, text_arm, truth_arm, use_arm, minus_arm, parentheses_arm, binary_arm, array_arm, struct_arm}
use Rattle.fp_type_forms.proofs.expressions.+naming.Goals as goal

pub repeated_in-returns-in-Number : goal.repeated_in-returns-in-Number
repeated_in-returns-in-Number t c = number_arm c.args.expression.now c.in-Number.field-0 c.in-Number.is

pub repeated_in-returns-in-Float : goal.repeated_in-returns-in-Float
repeated_in-returns-in-Float t c = float_arm c.args.expression.now c.in-Float.is

pub repeated_in-returns-in-Text : goal.repeated_in-returns-in-Text
repeated_in-returns-in-Text t c = text_arm c.args.expression.now c.in-Text.field-0 c.in-Text.is

pub repeated_in-returns-in-Truth : goal.repeated_in-returns-in-Truth
repeated_in-returns-in-Truth t c = truth_arm c.args.expression.now c.in-Truth.field-0 c.in-Truth.is

pub repeated_in-returns-in-Use : goal.repeated_in-returns-in-Use
repeated_in-returns-in-Use t c = use_arm c.args.expression.now c.in-Use.field-0 c.in-Use.is

pub repeated_in-returns-in-Minus : goal.repeated_in-returns-in-Minus
repeated_in-returns-in-Minus t c =
    if_ok_then c.repeated_in.result _ _
    (λ o l. minus_arm c.args.expression.now c.get.result.now o (c.in-Minus.is ∙ ap (λ (a : Expr). Minus a) (sym c.get.ensures)) l)
    c.repeated_in.ensures

pub repeated_in-returns-in-Parentheses : goal.repeated_in-returns-in-Parentheses
repeated_in-returns-in-Parentheses t c =
    if_ok_then c.repeated_in-in-Parentheses.result _ _
    (λ o l. parentheses_arm c.args.expression.now c.get-in-Parentheses.result.now o (c.in-Parentheses.is ∙ ap (λ (a : Expr). Parentheses a) (sym c.get-in-Parentheses.ensures)) l)
    c.repeated_in-in-Parentheses.ensures

pub repeated_in-returns-in_ok-other-in-Binary : goal.repeated_in-returns-in_ok-other-in-Binary
repeated_in-returns-in_ok-other-in-Binary t c =
    binary_arm c.args.expression.now c.in-Binary.operator c.get-left.result.now c.get-right.result.now c.in_ok-one-in-Binary.one c.in_ok-other-in-Binary.other c.lesser.result
    (c.in-Binary.is ∙ ap (λ (a : Expr). Binary c.in-Binary.operator a c.in-Binary.right) (sym c.get-left.ensures)
    ∙ ap (λ (b : Expr). Binary c.in-Binary.operator c.get-left.result.now b) (sym c.get-right.ensures))
    c.lesser.ensures c.in_ok-one-in-Binary.ensures c.in_ok-other-in-Binary.ensures

pub repeated_in-returns-in-Array : goal.repeated_in-returns-in-Array
repeated_in-returns-in-Array t c =
    if_ok_then c.in_list.result _ _
    (λ o l. array_arm c.args.expression.now c.as_slice.result.now o (c.in-Array.is ∙ ap (λ (xs : List Expr). Array xs) (sym c.as_slice.ensures)) l)
    c.in_list.ensures

pub repeated_in-returns-in_ok-within-in-Struct : goal.repeated_in-returns-in_ok-within-in-Struct
repeated_in-returns-in_ok-within-in-Struct t c =
    struct_arm c.args.expression.now c.as_slice-members.result.now c.in_ok-here-in-Struct.here c.in_ok-within-in-Struct.within c.lesser-in-Struct.result
    (c.in-Struct.is ∙ ap (λ (xs : List Assignment). Struct xs) (sym c.as_slice-members.ensures))
    c.lesser-in-Struct.ensures c.in_ok-here-in-Struct.ensures c.in_ok-within-in-Struct.ensures

pub in_list-loop-item-init : goal.in_list-loop-item-init
in_list-loop-item-init t c = least_first_none (λ (k : ℕ). RepeatsIn) c.args.items.now

pub in_list-loop-item-preserved : goal.in_list-loop-item-preserved
in_list-loop-item-preserved t c =
    let all = c.args.items.now in
    let n = c.loop-item.item-index in
    let x = c.item-item.result in
    let at : slice_get all n ≡ Some x = slice_get_read all (length all) n x refl c.loop-item-test.true c.item-item.is in
    least_along (sym c.lesser-first.ensures)
    (least_first_next (λ (k : ℕ). RepeatsIn) all n c.loop-item.first c.in_ok-one.one c.loop-item.invariant (least_in_one (λ (k : ℕ). RepeatsIn) all n x c.in_ok-one.one at c.in_ok-one.ensures))

pub in_list-returns : goal.in_list-returns
in_list-returns t c = least_of_all (λ (k : ℕ). RepeatsIn) c.args.items.now c.loop-item.item-index c.loop-item.first c.loop-item-test.false c.loop-item.invariant

pub in_struct-loop-member-init : goal.in_struct-loop-member-init
in_struct-loop-member-init t c = least_first_none (λ (k : ℕ) (m : Assignment). RepeatsIn m.value) c.args.members.now

pub in_struct-loop-member-preserved : goal.in_struct-loop-member-preserved
in_struct-loop-member-preserved t c =
    let all = c.args.members.now in
    let n = c.loop-member.member-index in
    let x = c.member-item.result in
    let at : slice_get all n ≡ Some x = slice_get_read all (length all) n x refl c.loop-member-test.true c.member-item.is in
    least_along (sym c.lesser-first.ensures)
    (least_first_next (λ (k : ℕ) (m : Assignment). RepeatsIn m.value) all n c.loop-member.first c.in_ok-one.one c.loop-member.invariant
    (least_in_one (λ (k : ℕ) (m : Assignment). RepeatsIn m.value) all n x c.in_ok-one.one at c.in_ok-one.ensures))

pub in_struct-returns : goal.in_struct-returns
in_struct-returns t c = least_of_all (λ (k : ℕ) (m : Assignment). RepeatsIn m.value) c.args.members.now c.loop-member.member-index c.loop-member.first c.loop-member-test.false c.loop-member.invariant
