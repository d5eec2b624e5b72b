use Rattle.std.proofs.Common.{Bool, MatchBool, ◌∙◌, sym, subst}
use Rattle.fp_machine_rules.specs.Values.{IsGivenOther}
use Rattle.fp_machine_rules.proofs.Giving.{plain_given}
use Rattle.fp_machine_rules.proofs.values.is_given_other.Goals as goal

pub returns-in-Some : goal.returns-in-Some
returns-in-Some c =
    let P = IsGivenOther c.args.items.now c.args.signals.now c.args.wanted c.args.item in
    subst (λ (b : Bool). MatchBool b P (P → ⊥)) (sym c.gives_other.ensures)
    (plain_given c.args.items.now c.args.signals.now c.args.wanted c.args.item c.in-Some.form (sym c.plain_form.ensures ∙ c.in-Some.is))
