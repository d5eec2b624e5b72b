use Rattle.std.proofs.Common.{List, ℕ, MatchBool, subst}
use Rattle.fp_machine_rules.specs.Branching.{SomeOutside}
use Rattle.fp_machine_rules.proofs.Choices.{escape_told}
use Rattle.fp_machine_rules.proofs.rings.escapes.Goals as goal

pub returns : goal.returns
returns c =
    escape_told c.args.items.now c.args.rows.now c.requires.rows c.args.parent c.args.target _ _ c.any_outside.result c.in_ok-visit.ensures
    (subst (λ (f : List ℕ). MatchBool c.any_outside.result (SomeOutside c.args.items.now c.args.parent f) (SomeOutside c.args.items.now c.args.parent f → ⊥))
    c.deref.ensures.value c.any_outside.ensures)
