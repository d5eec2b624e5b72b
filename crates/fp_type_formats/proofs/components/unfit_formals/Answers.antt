use Rattle.std.proofs.Common.{◌≡◌, Bool, List, Some, length, slice_get, take, refl, sym, subst}
use Rattle.std.proofs.lemmas.List.{take_all}
use Rattle.std.proofs.lemmas.Option.{slice_get_read}
use Rattle.fp_tree.specs.declared.part.Formal.{Formal}
use Rattle.fp_type_formats.specs.Sorted.{AreUnfit}
use Rattle.fp_type_formats.proofs.Unfit.{next_flagged, none_flagged}
use Rattle.fp_type_formats.proofs.components.unfit_formals.Goals as goal

pub loop-formal-init : goal.loop-formal-init
loop-formal-init c is found =
    subst (λ (bs : List Bool). AreUnfit is c.args.scope.now (take 0 c.args.formals.now) bs) (sym c.new-unfit.ensures) (none_flagged is c.args.scope.now c.args.formals.now)

pub loop-formal-preserved : goal.loop-formal-preserved
loop-formal-preserved c is found =
    let all = c.args.formals.now in
    let n = c.loop-formal.formal-index in
    let x = c.formal-item.result in
    let at : slice_get all n ≡ Some x = slice_get_read all (length all) n x refl c.loop-formal-test.true c.formal-item.is in
    next_flagged is c.args.scope.now all n x c.loop-formal.unfit c.push.new.self c.in_ok-one.one at (c.loop-formal.invariant is found) (c.in_ok-one.ensures is found) c.in_ok-push.ensures.ok

pub returns : goal.returns
returns c is found =
    subst (λ (xs : List Formal). AreUnfit is c.args.scope.now xs c.loop-formal.unfit) (take_all c.loop-formal.formal-index c.args.formals.now c.loop-formal-test.false) (c.loop-formal.invariant is found)
