use Rattle.std.proofs.Common.{ℕ, Some, None, sym, ap, ◌∙◌}
use Rattle.fp_component_forms.proofs.Firsts.{first_found}
use Rattle.fp_component_forms.proofs.specials.first_named.Goals as goal

pub returns-in_ok-number-in-Some : goal.returns-in_ok-number-in-Some
returns-in_ok-number-in-Some c =
    first_found c.args.name.now c.args.definitions.now (Some c.in_ok-number-in-Some.number) (ap (λ (n : ℕ). Some n) c.in_ok-number-in-Some.ensures ∙ sym c.in-Some.is ∙ c.place_of_name.ensures)

pub returns-in-None : goal.returns-in-None
returns-in-None c =
    first_found c.args.name.now c.args.definitions.now None (sym c.in-None.is ∙ c.place_of_name.ensures)
