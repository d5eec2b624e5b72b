use Rattle.std.proofs.Common.{◌≡◌, List, Some, length, slice_get, refl, sym, ap, ◌∙◌}
use Rattle.std.proofs.lemmas.Option.{slice_get_read}
use Rattle.fp_tree.specs.declared.expression.Expr.{Expr}
use Rattle.fp_tree.specs.declared.expression.Assignment.{Assignment}
use Rattle.fp_tree.specs.declared.expression.Form.TheVariants.{Number, Float, Text, Truth, Minus, Parentheses, Binary, Array, Struct}
use Rattle.fp_meaning.specs.Values.{values_in}
use Rattle.fp_meaning.proofs.Opened.{member_at, values_past}
use Rattle.fp_meaning.proofs.UseWalks.{number_uses, float_uses, text_uses, truth_uses}
use Rattle.fp_consts.proofs.Counted.{past_leaf, past_name, past_minus, past_parentheses, past_binary, past_array, past_struct, past_first, past_next, past_last}
use Rattle.fp_consts.proofs.counting.+counting.Goals as goal

pub past_expression-returns-in-Number : goal.past_expression-returns-in-Number
past_expression-returns-in-Number t c = past_leaf c.args.expression.now c.args.limit c.args.next c.args.next (Number c.in-Number.field-0) c.in-Number.is (λ scope. number_uses scope c.in-Number.field-0) refl

pub past_expression-returns-in-Float : goal.past_expression-returns-in-Float
past_expression-returns-in-Float t c = past_leaf c.args.expression.now c.args.limit c.args.next c.args.next Float c.in-Float.is (λ scope. float_uses scope) refl

pub past_expression-returns-in-Text : goal.past_expression-returns-in-Text
past_expression-returns-in-Text t c = past_leaf c.args.expression.now c.args.limit c.args.next c.args.next (Text c.in-Text.field-0) c.in-Text.is (λ scope. text_uses scope c.in-Text.field-0) refl

pub past_expression-returns-in-Truth : goal.past_expression-returns-in-Truth
past_expression-returns-in-Truth t c = past_leaf c.args.expression.now c.args.limit c.args.next c.args.next (Truth c.in-Truth.field-0) c.in-Truth.is (λ scope. truth_uses scope c.in-Truth.field-0) refl

pub past_expression-returns-in-Use : goal.past_expression-returns-in-Use
past_expression-returns-in-Use t c = past_name c.args.expression.now c.args.limit c.args.next c.past_use.result c.in-Use.field-0 c.in-Use.is c.past_use.ensures

pub past_expression-returns-in-Minus : goal.past_expression-returns-in-Minus
past_expression-returns-in-Minus t c =
    past_minus c.args.expression.now c.args.limit c.args.next c.past_expression.result c.get.result.now (c.in-Minus.is ∙ ap (λ (a : Expr). Minus a) (sym c.get.ensures)) c.past_expression.ensures

pub past_expression-returns-in-Parentheses : goal.past_expression-returns-in-Parentheses
past_expression-returns-in-Parentheses t c =
    past_parentheses c.args.expression.now c.args.limit c.args.next c.past_expression-in-Parentheses.result c.get-in-Parentheses.result.now
    (c.in-Parentheses.is ∙ ap (λ (a : Expr). Parentheses a) (sym c.get-in-Parentheses.ensures)) c.past_expression-in-Parentheses.ensures

pub past_expression-returns-in-Binary : goal.past_expression-returns-in-Binary
past_expression-returns-in-Binary t c =
    past_binary c.args.expression.now c.args.limit c.args.next c.past_expression-in-Binary.result c.in-Binary.operator c.get-in-Binary.result.now c.get-in-Binary-2.result.now c.past_expression-between.result
    (c.in-Binary.is ∙ ap (λ (a : Expr). Binary c.in-Binary.operator a c.in-Binary.right) (sym c.get-in-Binary.ensures) ∙ ap (λ (b : Expr). Binary c.in-Binary.operator c.get-in-Binary.result.now b) (sym c.get-in-Binary-2.ensures))
    c.past_expression-between.ensures c.past_expression-in-Binary.ensures

pub past_expression-returns-in-Array : goal.past_expression-returns-in-Array
past_expression-returns-in-Array t c =
    past_array c.args.expression.now c.args.limit c.args.next c.past_items.result c.as_slice.result.now (c.in-Array.is ∙ ap (λ (xs : List Expr). Array xs) (sym c.as_slice.ensures)) c.past_items.ensures

pub past_expression-returns-in-Struct : goal.past_expression-returns-in-Struct
past_expression-returns-in-Struct t c =
    past_struct c.args.expression.now c.args.limit c.args.next c.past_members.result c.as_slice-in-Struct.result.now (c.in-Struct.is ∙ ap (λ (xs : List Assignment). Struct xs) (sym c.as_slice-in-Struct.ensures)) c.past_members.ensures

pub past_items-loop-item-init : goal.past_items-loop-item-init
past_items-loop-item-init t c = past_first c.args.items.now c.args.limit c.args.next c.args.next refl

pub past_items-loop-item-preserved : goal.past_items-loop-item-preserved
past_items-loop-item-preserved t c =
    let all = c.args.items.now in
    let n = c.loop-item.item-index in
    let item = c.item-item.result in
    let at : slice_get all n ≡ Some item = slice_get_read all (length all) n item refl c.loop-item-test.true c.item-item.is in
    past_next all c.args.limit c.args.next n item c.loop-item.reached _ at c.loop-item.invariant c.past_expression-reached.ensures

pub past_members-loop-member-init : goal.past_members-loop-member-init
past_members-loop-member-init t c = past_first (values_in c.args.members.now) c.args.limit c.args.next c.args.next refl

pub past_members-loop-member-preserved : goal.past_members-loop-member-preserved
past_members-loop-member-preserved t c =
    let all = c.args.members.now in
    let n = c.loop-member.member-index in
    let m = c.member-item.result in
    let at : slice_get all n ≡ Some m = slice_get_read all (length all) n m refl c.loop-member-test.true c.member-item.is in
    past_next (values_in all) c.args.limit c.args.next n m.value c.loop-member.reached _ (member_at all n m at) c.loop-member.invariant c.past_member-reached.ensures

pub past_items-returns : goal.past_items-returns
past_items-returns t c = past_last c.args.items.now c.args.limit c.args.next c.loop-item.item-index c.loop-item.reached c.loop-item-test.false c.loop-item.invariant

pub past_members-returns : goal.past_members-returns
past_members-returns t c =
    past_last (values_in c.args.members.now) c.args.limit c.args.next c.loop-member.member-index c.loop-member.reached
    (values_past c.args.members.now c.loop-member.member-index c.loop-member-test.false) c.loop-member.invariant
