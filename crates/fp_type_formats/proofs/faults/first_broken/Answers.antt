use Rattle.std.proofs.Common.{ℕ, length, sym, subst}
use Rattle.std.specs.Prelude.{List}
use Rattle.fp_base.proofs.Calculus.{least_along}
use Rattle.fp_type_formats.specs.Sorted.{IsReadAs, unfit_at}
use Rattle.fp_type_formats.proofs.Judged.{least_found}
use Rattle.fp_type_formats.proofs.faults.first_broken.Goals as goal

pub returns : goal.returns
returns c =
    let unfit = unfit_at c.args.unfit.now c.args.others in
    let text = c.args.format.now.text in
    let read : IsReadAs unfit text c.read-reading.result = subst (λ (t : List ℕ). IsReadAs unfit t c.read-reading.result) c.as_bytes.ensures.value c.read-reading.ensures in
    least_along (sym c.fault_found.ensures) (least_found unfit text c.read-reading.result read (length c.args.unfit.now) c.args.format.now.at.first)
