use Rattle.std.proofs.Common.{◌≡◌, Some, length, slice_get, refl, sym}
use Rattle.std.proofs.lemmas.Option.{slice_get_read}
use Rattle.fp_base.specs.Least.{broken_at}
use Rattle.fp_base.specs.declared.rule.Rule.TheVariants.{RefParameter}
use Rattle.fp_base.proofs.Calculus.{least_along, least_if}
use Rattle.fp_base.proofs.Elements.{least_first_none, least_next, least_of_all}
use Rattle.fp_base.proofs.Bools.{not_both}
use Rattle.fp_dictdefs.proofs.Folding.{RefAt}
use Rattle.fp_dictdefs.proofs.formals.ref_formal.Goals as goal

pub loop-formal-init : goal.loop-formal-init
loop-formal-init c = least_first_none RefAt c.args.formals.now

pub loop-formal-preserved : goal.loop-formal-preserved
loop-formal-preserved c =
    let all = c.args.formals.now in
    let n = c.loop-formal.formal-index in
    let x = c.formal-item.result in
    let at : slice_get all n ≡ Some x = slice_get_read all (length all) n x refl c.loop-formal-test.true c.formal-item.is in
    least_next RefAt all n x c.loop-formal.first c.lesser-first.result c.refusal_if-fault.result at c.lesser-first.ensures
    (least_along (sym c.refusal_if-fault.ensures) (least_if x.by_ref (broken_at RefParameter x.at) (λ e. e) (λ e f. not_both f e))) c.loop-formal.invariant

pub returns : goal.returns
returns c = least_of_all RefAt c.args.formals.now c.loop-formal.formal-index c.loop-formal.first c.loop-formal-test.false c.loop-formal.invariant
