use Rattle.std.proofs.Common.{rules, ◌≡◌, List, Some, length, slice_get, refl, sym, ap, ◌∙◌}
use Rattle.std.proofs.lemmas.Option.{slice_get_read}
use Rattle.fp_base.proofs.Options.{if_ok_then}
use Rattle.fp_tree.specs.declared.expression.Expr.{Expr}
use Rattle.fp_tree.specs.declared.expression.Form.TheVariants.{Minus, Parentheses, Binary, Array, Struct}
use Rattle.fp_tree.specs.declared.expression.Assignment.{Assignment}
use Rattle.fp_meaning.specs.Values.{values_in}
use Rattle.fp_meaning.proofs.Opened.{member_at, values_past}
use Rattle.fp_consts.proofs.Arms.{number_arm, float_arm, text_arm, truth_arm, use_arm, minus_arm, parentheses_arm, binary_arm, list_made, struct_made, gathers_none, gathers_next, gathers_all}
use Rattle.fp_consts.proofs.examining.+examine.Goals as goal

pub examine-returns-in-Number : goal.examine-returns-in-Number
examine-returns-in-Number t c = number_arm c.args.table.now c.args.meanings.now c.args.expression.now c.args.next c.in-Number.number _ c.simple.result c.in-Number.is (search rules) c.simple.ensures

pub examine-returns-in-Float : goal.examine-returns-in-Float
examine-returns-in-Float t c = float_arm c.args.table.now c.args.meanings.now c.args.expression.now c.args.next c.float.result c.in-Float.is c.float.ensures

pub examine-returns-in-Text : goal.examine-returns-in-Text
examine-returns-in-Text t c =
    if_ok_then c.text.result _ _
    (λ found f. text_arm c.args.table.now c.args.meanings.now c.args.expression.now c.args.next c.in-Text.words found c.in-Text.is f) c.text.ensures

pub examine-returns-in-Truth : goal.examine-returns-in-Truth
examine-returns-in-Truth t c = truth_arm c.args.table.now c.args.meanings.now c.args.expression.now c.args.next c.in-Truth.truth c.simple-in-Truth.result c.in-Truth.is c.simple-in-Truth.ensures

pub examine-returns-in-Use : goal.examine-returns-in-Use
examine-returns-in-Use t c =
    if_ok_then c.used.result _ _
    (λ found f. use_arm c.args.table.now c.args.meanings.now c.args.expression.now c.args.next c.in-Use.field-0 found c.in-Use.is f) c.used.ensures

pub examine-returns-in_ok-within-in-Minus : goal.examine-returns-in_ok-within-in-Minus
examine-returns-in_ok-within-in-Minus t c =
    minus_arm c.args.table.now c.args.meanings.now c.args.expression.now c.args.next c.get-operand.result.now c.in_ok-within-in-Minus.within c.minus.result
    (c.in-Minus.is ∙ ap (λ (a : Expr). Minus a) (sym c.get-operand.ensures)) c.in_ok-within-in-Minus.ensures c.minus.ensures

pub examine-returns-in-Parentheses : goal.examine-returns-in-Parentheses
examine-returns-in-Parentheses t c =
    if_ok_then c.examine-in-Parentheses.result _ _
    (λ found f. parentheses_arm c.args.table.now c.args.meanings.now c.args.expression.now c.args.next c.get.result.now found
    (c.in-Parentheses.is ∙ ap (λ (a : Expr). Parentheses a) (sym c.get.ensures)) f) c.examine-in-Parentheses.ensures

pub examine-returns-in-Array : goal.examine-returns-in-Array
examine-returns-in-Array t c =
    if_ok_then c.of_list.result _ _
    (λ found f. f c.args.expression.now (c.in-Array.is ∙ ap (λ (xs : List Expr). Array xs) (sym c.as_slice.ensures)) refl)
    c.of_list.ensures

pub examine-returns-in-Struct : goal.examine-returns-in-Struct
examine-returns-in-Struct t c =
    if_ok_then c.of_struct.result _ _
    (λ found f. f c.args.expression.now (c.in-Struct.is ∙ ap (λ (xs : List Assignment). Struct xs) (sym c.as_slice-in-Struct.ensures)) refl)
    c.of_struct.ensures

pub examine-returns-in_ok-other-in-Binary : goal.examine-returns-in_ok-other-in-Binary
examine-returns-in_ok-other-in-Binary t c =
    binary_arm c.args.table.now c.args.meanings.now c.args.expression.now c.args.next c.in-Binary.operator c.get-left.result.now c.get-right.result.now c.in_ok-one-in-Binary.one c.in_ok-other-in-Binary.other c.binary.result
    (c.in-Binary.is ∙ ap (λ (a : Expr). Binary c.in-Binary.operator a c.in-Binary.right) (sym c.get-left.ensures) ∙ ap (λ (b : Expr). Binary c.in-Binary.operator c.get-left.result.now b) (sym c.get-right.ensures))
    c.in_ok-one-in-Binary.ensures c.in_ok-other-in-Binary.ensures c.binary.ensures

pub of_list-loop-item-init : goal.of_list-loop-item-init
of_list-loop-item-init t c = gathers_none c.args.table.now c.args.meanings.now c.args.items.now c.args.next c.begun-gathered.result c.begun-gathered.ensures

pub of_list-loop-item-preserved : goal.of_list-loop-item-preserved
of_list-loop-item-preserved t c =
    let all = c.args.items.now in
    let n = c.loop-item.item-index in
    let item = c.item-item.result in
    let at : slice_get all n ≡ Some item = slice_get_read all (length all) n item refl c.loop-item-test.true c.item-item.is in
    gathers_next c.args.table.now c.args.meanings.now all c.args.next n item c.loop-item.gathered c.in_ok-found.found _ at c.loop-item.invariant c.in_ok-found.ensures c.in_ok-gathered.ensures

pub of_struct-loop-member-init : goal.of_struct-loop-member-init
of_struct-loop-member-init t c = gathers_none c.args.table.now c.args.meanings.now (values_in c.args.members.now) c.args.next c.begun-gathered.result c.begun-gathered.ensures

pub of_struct-loop-member-preserved : goal.of_struct-loop-member-preserved
of_struct-loop-member-preserved t c =
    let all = c.args.members.now in
    let n = c.loop-member.member-index in
    let m = c.member-item.result in
    let at : slice_get all n ≡ Some m = slice_get_read all (length all) n m refl c.loop-member-test.true c.member-item.is in
    gathers_next c.args.table.now c.args.meanings.now (values_in all) c.args.next n m.value c.loop-member.gathered c.in_ok-found.found _ (member_at all n m at) c.loop-member.invariant c.in_ok-found.ensures c.in_ok-gathered.ensures

pub of_list-returns : goal.of_list-returns
of_list-returns t c =
    let table = c.args.table.now in
    let numbers = c.args.meanings.now in
    let all = c.args.items.now in
    let now = c.loop-item in
    list_made table numbers c.args.place c.args.next all now.gathered c.sized.result c.listed.result
    (gathers_all table numbers all c.args.next now.item-index now.gathered c.loop-item-test.false now.invariant) c.sized.ensures c.listed.ensures

pub of_struct-returns : goal.of_struct-returns
of_struct-returns t c =
    let table = c.args.table.now in
    let numbers = c.args.meanings.now in
    let all = c.args.members.now in
    let now = c.loop-member in
    let past = values_past all now.member-index c.loop-member-test.false in
    if_ok_then c.structured.result _ _
    (λ found f. struct_made table numbers c.args.place c.args.next all now.gathered c.sized.result found
    (gathers_all table numbers (values_in all) c.args.next now.member-index now.gathered past now.invariant) c.sized.ensures f) c.structured.ensures
