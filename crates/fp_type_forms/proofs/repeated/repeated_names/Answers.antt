use Rattle.std.proofs.Common.{◌≡◌, ℕ, Some, length, slice_get, refl, sym}
use Rattle.std.proofs.lemmas.Option.{slice_get_read}
use Rattle.fp_base.proofs.Calculus.{least_along}
use Rattle.fp_base.proofs.Elements.{least_first_none, least_first_next, least_in_one, least_of_all}
use Rattle.fp_type_forms.specs.Tested.{NamesByItem}
use Rattle.fp_type_forms.proofs.repeated.repeated_names.Goals as goal

pub loop-item-init : goal.loop-item-init
loop-item-init c = least_first_none (λ (k : ℕ). NamesByItem) c.args.items.now

pub loop-item-preserved : goal.loop-item-preserved
loop-item-preserved c =
    let all = c.args.items.now in
    let n = c.loop-item.item-index in
    let x = c.item-item.result in
    let at : slice_get all n ≡ Some x = slice_get_read all (length all) n x refl c.loop-item-test.true c.item-item.is in
    least_along (sym c.lesser-first.ensures)
    (least_first_next (λ (k : ℕ). NamesByItem) all n c.loop-item.first c.in_ok-one.one c.loop-item.invariant (least_in_one (λ (k : ℕ). NamesByItem) all n x c.in_ok-one.one at c.in_ok-one.ensures))

pub returns : goal.returns
returns c = least_of_all (λ (k : ℕ). NamesByItem) c.args.items.now c.loop-item.item-index c.loop-item.first c.loop-item-test.false c.loop-item.invariant
