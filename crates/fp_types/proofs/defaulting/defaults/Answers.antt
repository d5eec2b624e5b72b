use Rattle.std.proofs.Common.{◌≡◌, ◌+◌, List, Option, Some, get_or, slice_get, sym, subst}
use Rattle.std.proofs.lemmas.Option.{slice_get-get_or}
use Rattle.fp_base.specs.declared.value.Value.{Value}
use Rattle.fp_types.specs.Defaulted.{DefaultedFirst, FindsDefault}
use Rattle.fp_types.proofs.Passed.{defaulted_next, defaulted_all}
use Rattle.fp_types.proofs.defaulting.defaults.Goals as goal

pub loop-number-preserved : goal.loop-number-preserved
loop-number-preserved c =
    let ws = c.args.types.now in
    let order = c.args.order.now in
    let k = c.loop-number.number-index in
    let table = c.loop-number.table.items in
    let v = get_or order k 0 in
    let at : slice_get order k ≡ Some v = slice_get-get_or order k 0 c.loop-number-test.true in
    let found = subst (λ (xs : List (Option Value)). FindsDefault ws xs v c.in_ok-default.default) c.as_slice.ensures.value c.in_ok-default.ensures in
    subst (λ (xs : List (Option Value)). DefaultedFirst ws order (k + 1) xs) (sym c.put.ensures)
    (defaulted_next ws order c.requires.order table k v c.in_ok-default.default c.loop-number.invariant at found)

pub returns : goal.returns
returns c = defaulted_all c.args.types.now c.args.order.now c.loop-number.table.items c.loop-number.number-index c.requires.order c.loop-number-test.false c.loop-number.invariant
