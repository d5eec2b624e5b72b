use Rattle.std.proofs.Common.{◌≡◌, true, [], ◌∷◌, sym, ◌∙◌}
use Rattle.fp_type_formats.specs.Integers.{NamesNoInteger}
use Rattle.fp_type_formats.specs.Sorted.{unfit_at}
use Rattle.fp_type_formats.proofs.Judged.{least_of_fields}
use Rattle.fp_type_formats.proofs.Unfit.{always, no_unfit, yes_unfit}
use Rattle.fp_type_formats.proofs.faults.text_fault.Goals as goal

pub returns : goal.returns
returns c is found =
    let unfit = c.in_ok-unfit.unfit in
    let told = c.in_ok-unfit.ensures is found in
    least_of_fields c.args.format.now.text c.args.format.now.at.first 1 (λ k. unfit_at (unfit ∷ []) unfit k ≡ true) (λ k. NamesNoInteger is 256 c.args.scope.now c.args.form.now)
    (λ k e. yes_unfit is c.args.scope.now c.args.form.now unfit told (sym (always unfit k) ∙ e))
    (λ k h. always unfit k ∙ no_unfit is c.args.scope.now c.args.form.now unfit told h) c.first_broken.ensures
