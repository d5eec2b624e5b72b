use Rattle.std.proofs.Common.{◌≡◌, ℕ, Some, length, slice_get, refl, sym, subst, arith}
use Rattle.std.proofs.lemmas.Option.{slice_get_read}
use Rattle.fp_base.specs.Least.{InFirst, IsLeast}
use Rattle.fp_base.proofs.Calculus.{least_along}
use Rattle.fp_base.proofs.Elements.{least_first_none, least_first_next, least_first_all}
use Rattle.fp_uses.specs.Flagged.{Flagged}
use Rattle.fp_uses.proofs.LeastFlagged.{one_flagged}
use Rattle.fp_uses.proofs.faults.least_of.Goals as goal

pub loop-number-init : goal.loop-number-init
loop-number-init c = least_first_none (Flagged c.args.cyclic.now c.args.deep.now c.args.users) c.args.definitions.now

pub loop-number-preserved : goal.loop-number-preserved
loop-number-preserved c =
    let cyclic = c.args.cyclic.now in
    let deep = c.args.deep.now in
    let all = c.args.definitions.now in
    let n = c.loop-number.number in
    let d = c.index-definitions-number.result in
    let at : slice_get all n ≡ Some d = slice_get_read all (length all) n d refl c.loop-number-test.true c.index-definitions-number.is in
    least_along (sym c.lesser-first.ensures)
    (least_first_next (Flagged cyclic deep c.args.users) all n c.loop-number.first c.fault_at-fault.result c.loop-number.invariant
    (one_flagged cyclic deep c.args.users all n d c.is_flagged.result c.is_flagged-in-loop-number.result c.fault_at-fault.result
    at c.is_flagged.ensures c.is_flagged-in-loop-number.ensures c.fault_at-fault.ensures))

pub returns : goal.returns
returns c =
    let flagged = Flagged c.args.cyclic.now c.args.deep.now c.args.users in
    let all = c.args.definitions.now in
    let over : c.loop-number.number ≡ length all = omega (arith, c.loop-number.auto.number-end, c.loop-number-test.false) in
    least_first_all flagged all c.loop-number.first (subst (λ (n : ℕ). IsLeast (InFirst n flagged all) c.loop-number.first) over c.loop-number.invariant)
