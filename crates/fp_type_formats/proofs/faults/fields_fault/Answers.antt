use Rattle.std.proofs.Common.{◌≡◌, ℕ, Some, length, slice_get, refl, sym}
use Rattle.std.proofs.lemmas.Option.{slice_get_read}
use Rattle.fp_base.proofs.Calculus.{least_along}
use Rattle.fp_base.proofs.Elements.{least_first_none, least_first_next, least_in_one, least_of_all}
use Rattle.fp_type_formats.specs.Broken.{BrokenByMember}
use Rattle.fp_type_formats.proofs.faults.fields_fault.Goals as goal

pub loop-field-init : goal.loop-field-init
loop-field-init c is found = least_first_none (λ (k : ℕ). BrokenByMember is c.args.scope.now) c.args.fields.now

pub loop-field-preserved : goal.loop-field-preserved
loop-field-preserved c is found =
    let all = c.args.fields.now in
    let n = c.loop-field.field-index in
    let x = c.field-item.result in
    let at : slice_get all n ≡ Some x = slice_get_read all (length all) n x refl c.loop-field-test.true c.field-item.is in
    least_along (sym c.lesser-first.ensures)
    (least_first_next (λ (k : ℕ). BrokenByMember is c.args.scope.now) all n c.loop-field.first c.in_ok-fault.fault (c.loop-field.invariant is found)
    (least_in_one (λ (k : ℕ). BrokenByMember is c.args.scope.now) all n x c.in_ok-fault.fault at (c.in_ok-fault.ensures is found)))

pub returns : goal.returns
returns c is found =
    least_of_all (λ (k : ℕ). BrokenByMember is c.args.scope.now) c.args.fields.now c.loop-field.field-index c.loop-field.first c.loop-field-test.false (c.loop-field.invariant is found)
