use Rattle.std.proofs.Common.{◌≡◌, ℕ, length, get_or, sym, subst, arith}
use Rattle.std.proofs.lemmas.Option.{slice_get-get_or}
use Rattle.fp_base.specs.declared.place.Place.{Place}
use Rattle.fp_base.specs.Least.{InFirst, IsLeast}
use Rattle.fp_base.proofs.Calculus.{least_along}
use Rattle.fp_base.proofs.Elements.{least_first_none, least_first_next, least_first_all, least_in_one}
use Rattle.fp_machine_rules.specs.Broken.{IsFlaggedAt}
use Rattle.fp_machine_rules.proofs.placing.least_flagged.Goals as goal

pub all-init : goal.all-init
all-init c = least_first_none (IsFlaggedAt c.args.rule c.args.flags.now) c.args.places.now

pub all-preserved : goal.all-preserved
all-preserved c =
    let P = IsFlaggedAt c.args.rule c.args.flags.now in
    let places = c.args.places.now in
    let at = c.all.at in
    let none : Place = record { file = 0; line = 0; column = 0 } in
    let here = slice_get-get_or places at none (omega arith) in
    least_along (sym c.lesser-first.ensures)
    (least_first_next P places at c.all.first c.flagged_fault-fault.result c.all.invariant
    (least_in_one P places at (get_or places at none) c.flagged_fault-fault.result here c.flagged_fault-fault.ensures))

pub returns : goal.returns
returns c =
    let P = IsFlaggedAt c.args.rule c.args.flags.now in
    let places = c.args.places.now in
    let over : c.all.at ≡ length places = omega (arith, c.all.auto.at-end) in
    least_first_all P places c.all.first (subst (λ (n : ℕ). IsLeast (InFirst n P places) c.all.first) over c.all.invariant)
