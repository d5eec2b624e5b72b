use Rattle.std.proofs.Common.{◌≡◌, ℕ, Some, length, slice_get, refl, sym}
use Rattle.std.proofs.lemmas.Option.{slice_get_read}
use Rattle.fp_base.proofs.Calculus.{least_along}
use Rattle.fp_base.proofs.Elements.{least_first_none, least_first_next, least_in_one, least_of_all}
use Rattle.fp_type_formats.specs.Broken.{BrokenByPart}
use Rattle.fp_type_formats.proofs.components.parts_fault.Goals as goal

pub loop-part-init : goal.loop-part-init
loop-part-init c is found = least_first_none (λ (k : ℕ). BrokenByPart is c.args.scope.now) c.args.parts.now

pub loop-part-preserved : goal.loop-part-preserved
loop-part-preserved c is found =
    let all = c.args.parts.now in
    let n = c.loop-part.part-index in
    let x = c.part-item.result in
    let at : slice_get all n ≡ Some x = slice_get_read all (length all) n x refl c.loop-part-test.true c.part-item.is in
    least_along (sym c.lesser-least.ensures)
    (least_first_next (λ (k : ℕ). BrokenByPart is c.args.scope.now) all n c.loop-part.least c.in_ok-fault.fault (c.loop-part.invariant is found)
    (least_in_one (λ (k : ℕ). BrokenByPart is c.args.scope.now) all n x c.in_ok-fault.fault at (c.in_ok-fault.ensures is found)))

pub returns : goal.returns
returns c is found =
    least_of_all (λ (k : ℕ). BrokenByPart is c.args.scope.now) c.args.parts.now c.loop-part.part-index c.loop-part.least c.loop-part-test.false (c.loop-part.invariant is found)
