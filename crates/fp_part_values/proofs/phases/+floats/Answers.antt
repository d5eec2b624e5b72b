use Rattle.std.proofs.Common.{◌≡◌, List, Some, length, slice_get, refl, sym, ap, ◌∙◌}
use Rattle.std.proofs.lemmas.Option.{slice_get_read}
use Rattle.fp_tree.specs.declared.expression.Expr.{Expr}
use Rattle.fp_tree.specs.declared.expression.Assignment.{Assignment}
use Rattle.fp_tree.specs.declared.expression.Form.TheVariants.{Minus, Parentheses, Binary, Array, Struct}
use Rattle.fp_meaning.specs.Values.{values_in}
use Rattle.fp_meaning.proofs.Opened.{member_at, values_past}
use Rattle.fp_part_values.specs.Phases.{FloatBroken}
use Rattle.fp_part_values.proofs.Folding.{least_next, least_of_all, least_start}
use Rattle.fp_part_values.proofs.Floating.{number_arm, float_arm, text_arm, truth_arm, use_arm, minus_arm, parentheses_arm, binary_arm, array_arm, struct_arm}
use Rattle.fp_part_values.proofs.phases.+floats.Goals as goal

pub expression_fault-returns-in-Number : goal.expression_fault-returns-in-Number
expression_fault-returns-in-Number t c = number_arm c.args.expression.now c.in-Number.field-0 c.in-Number.is

pub expression_fault-returns-in-Float : goal.expression_fault-returns-in-Float
expression_fault-returns-in-Float t c = float_arm c.args.expression.now c.refusal_at.result c.in-Float.is c.refusal_at.ensures

pub expression_fault-returns-in-Text : goal.expression_fault-returns-in-Text
expression_fault-returns-in-Text t c = text_arm c.args.expression.now c.in-Text.field-0 c.in-Text.is

pub expression_fault-returns-in-Truth : goal.expression_fault-returns-in-Truth
expression_fault-returns-in-Truth t c = truth_arm c.args.expression.now c.in-Truth.field-0 c.in-Truth.is

pub expression_fault-returns-in-Use : goal.expression_fault-returns-in-Use
expression_fault-returns-in-Use t c = use_arm c.args.expression.now c.in-Use.field-0 c.in-Use.is

pub expression_fault-returns-in-Minus : goal.expression_fault-returns-in-Minus
expression_fault-returns-in-Minus t c =
    minus_arm c.args.expression.now c.get.result.now c.expression_fault.result (c.in-Minus.is ∙ ap (λ (a : Expr). Minus a) (sym c.get.ensures)) c.expression_fault.ensures

pub expression_fault-returns-in-Parentheses : goal.expression_fault-returns-in-Parentheses
expression_fault-returns-in-Parentheses t c =
    parentheses_arm c.args.expression.now c.get-in-Parentheses.result.now c.expression_fault-in-Parentheses.result
    (c.in-Parentheses.is ∙ ap (λ (a : Expr). Parentheses a) (sym c.get-in-Parentheses.ensures)) c.expression_fault-in-Parentheses.ensures

pub expression_fault-returns-in-Binary : goal.expression_fault-returns-in-Binary
expression_fault-returns-in-Binary t c =
    binary_arm c.args.expression.now c.in-Binary.operator c.get-in-Binary.result.now c.get-in-Binary-2.result.now c.expression_fault-one.result c.expression_fault-other.result c.lesser.result
    (c.in-Binary.is ∙ ap (λ (a : Expr). Binary c.in-Binary.operator a c.in-Binary.right) (sym c.get-in-Binary.ensures) ∙ ap (λ (b : Expr). Binary c.in-Binary.operator c.get-in-Binary.result.now b) (sym c.get-in-Binary-2.ensures))
    c.lesser.ensures c.expression_fault-one.ensures c.expression_fault-other.ensures

pub expression_fault-returns-in-Array : goal.expression_fault-returns-in-Array
expression_fault-returns-in-Array t c =
    array_arm c.args.expression.now c.as_slice.result.now c.items_fault.result (c.in-Array.is ∙ ap (λ (xs : List Expr). Array xs) (sym c.as_slice.ensures)) c.items_fault.ensures

pub expression_fault-returns-in-Struct : goal.expression_fault-returns-in-Struct
expression_fault-returns-in-Struct t c =
    struct_arm c.args.expression.now c.as_slice-in-Struct.result.now c.members_fault.result (c.in-Struct.is ∙ ap (λ (xs : List Assignment). Struct xs) (sym c.as_slice-in-Struct.ensures)) c.members_fault.ensures

pub items_fault-loop-item-init : goal.items_fault-loop-item-init
items_fault-loop-item-init t c = least_start FloatBroken c.args.items.now

pub items_fault-loop-item-preserved : goal.items_fault-loop-item-preserved
items_fault-loop-item-preserved t c =
    let all = c.args.items.now in
    let n = c.loop-item.item-index in
    let item = c.item-item.result in
    let at : slice_get all n ≡ Some item = slice_get_read all (length all) n item refl c.loop-item-test.true c.item-item.is in
    least_next FloatBroken all n item c.loop-item.first c.lesser-first.result c.expression_fault-of_element.result at c.lesser-first.ensures c.expression_fault-of_element.ensures c.loop-item.invariant

pub items_fault-returns : goal.items_fault-returns
items_fault-returns t c = least_of_all FloatBroken c.args.items.now c.loop-item.item-index c.loop-item.first c.loop-item-test.false c.loop-item.invariant

pub members_fault-loop-member-init : goal.members_fault-loop-member-init
members_fault-loop-member-init t c = least_start FloatBroken (values_in c.args.members.now)

pub members_fault-loop-member-preserved : goal.members_fault-loop-member-preserved
members_fault-loop-member-preserved t c =
    let all = c.args.members.now in
    let n = c.loop-member.member-index in
    let m = c.member-item.result in
    let at : slice_get all n ≡ Some m = slice_get_read all (length all) n m refl c.loop-member-test.true c.member-item.is in
    least_next FloatBroken (values_in all) n m.value c.loop-member.first c.lesser-first.result c.member_fault-of_member.result (member_at all n m at) c.lesser-first.ensures c.member_fault-of_member.ensures
    c.loop-member.invariant

pub members_fault-returns : goal.members_fault-returns
members_fault-returns t c =
    least_of_all FloatBroken (values_in c.args.members.now) c.loop-member.member-index c.loop-member.first (values_past c.args.members.now c.loop-member.member-index c.loop-member-test.false)
    c.loop-member.invariant
