use Rattle.std.proofs.Common.{Bool, List, ℕ, ◌||◌, ap, ◌∙◌, bytes_eq}
use Rattle.fp_base.specs.declared.place.Place.{Place}
use Rattle.fp_base.specs.NameSets.{has_name}
use Rattle.fp_type_forms.specs.Tested.{name_fault}
use Rattle.fp_type_forms.proofs.names.note.Goals as goal

pub returns-clause-again : goal.returns-clause-again
returns-clause-again c =
    c.refusal_if.ensures
    ∙ ap (λ (b : Bool). name_fault b c.args.name.now.at.first) (c.in_ok-again.ensures.again ∙ ap (λ (n : List ℕ). has_name c.args.seen.now n) c.as_str.ensures)

pub returns-clause-seen : goal.returns-clause-seen
returns-clause-seen c q = c.in_ok-again.ensures.seen q ∙ ap (λ (n : List ℕ). has_name c.args.seen.now q || bytes_eq q n) c.as_str.ensures
