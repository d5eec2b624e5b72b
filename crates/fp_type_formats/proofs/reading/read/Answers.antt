use Rattle.std.proofs.Common.{◌≡◌, ◌∷◌, List, ℕ, length, sym, ap, subst, arith}
use Rattle.std.proofs.lemmas.Grind.{common_steps}
use Rattle.fp_base.proofs.Lists.{no_items}
use Rattle.fp_type_formats.specs.declared.reading.Reading.{Reading}
use Rattle.fp_type_formats.specs.Sorted.{IsNext, unfit_at}
use Rattle.fp_type_formats.proofs.Progress.{IsReadTo, begun, ended, read_next}
use Rattle.fp_type_formats.proofs.reading.read.Goals as goal

pub loop-first-init : goal.loop-first-init
loop-first-init c =
    let unfit = unfit_at c.args.unfit.now c.args.others in
    subst (λ (r : Reading). IsReadTo unfit c.args.text.now r c.args.text.now) (sym c.nothing_read-reading.ensures) (begun unfit c.args.text.now)

pub with_mark-reading-requires : goal.with_mark-reading-requires
with_mark-reading-requires c =
    let is : c.loop-first.rest.now ≡ c.in-Some.first.now ∷ c.in-Some.behind.now = grind (arith, common_steps, c.in-Some.ensures.cases) in
    let long = ap length is in
    omega (arith, long, c.loop-first.invariant.few)

pub loop-first-preserved : goal.loop-first-preserved
loop-first-preserved c =
    let unfit = unfit_at c.args.unfit.now c.args.others in
    let text = c.args.text.now in
    let rest = c.loop-first.rest.now in
    let mark = c.first_mark-next.result.0 in
    let after = c.first_mark-next.result.1.now in
    let is : rest ≡ c.in-Some.first.now ∷ c.in-Some.behind.now = grind (arith, common_steps, c.in-Some.ensures.cases) in
    let next : IsNext rest mark after = subst (λ (t : List ℕ). IsNext t mark after) (sym is) c.first_mark-next.ensures in
    subst (λ (r : Reading). IsReadTo unfit text r after) (sym c.with_mark-reading.ensures)
    (read_next unfit text c.loop-first.reading rest mark after c.loop-first.invariant next)

pub returns : goal.returns
returns c =
    ended (unfit_at c.args.unfit.now c.args.others) c.args.text.now c.loop-first.reading c.loop-first.rest.now (no_items c.loop-first.rest.now c.in_default.ensures.cases) c.loop-first.invariant
