use Rattle.std.proofs.Common.{◌≡◌, ℕ, length, get_or, sym, subst, arith}
use Rattle.std.proofs.lemmas.Option.{slice_get-get_or}
use Rattle.fp_base.specs.declared.place.Place.{Place}
use Rattle.fp_base.specs.Least.{InFirst, IsLeast}
use Rattle.fp_base.proofs.Calculus.{least_along}
use Rattle.fp_base.proofs.Elements.{least_first_none, least_first_next, least_first_all, least_in_one}
use Rattle.fp_types.specs.Faults.{IsBadDefault}
use Rattle.fp_types.proofs.misfits.bad_defaults.Goals as goal

pub all-init : goal.all-init
all-init c = least_first_none (IsBadDefault c.args.types.now) c.args.places.now

pub all-preserved : goal.all-preserved
all-preserved c =
    let ws = c.args.types.now in
    let places = c.args.places.now in
    let number = c.all.number in
    let none : Place = record { file = 0; line = 0; column = 0 } in
    let at = slice_get-get_or places number none (omega arith) in
    least_along (sym c.lesser-first.ensures)
    (least_first_next (IsBadDefault ws) places number c.all.first c.bad_default-fault.result c.all.invariant
    (least_in_one (IsBadDefault ws) places number (get_or places number none) c.bad_default-fault.result at c.bad_default-fault.ensures))

pub returns : goal.returns
returns c =
    let large = IsBadDefault c.args.types.now in
    let places = c.args.places.now in
    let over : c.all.number ≡ length places = omega (arith, c.all.auto.number-end) in
    least_first_all large places c.all.first (subst (λ (n : ℕ). IsLeast (InFirst n large places) c.all.first) over c.all.invariant)
