-- Lists of actions of callers, an action at a time.
use Rattle.std.proofs.Common.{◌≡◌, ℕ, suc, ◌+◌, ◌<◌, ◌≤◌, List, [], ◌∷◌, ◌++◌, length, drop, get_or, sym, subst, arith, append_assoc, append-nil}
use Rattle.fp_base.specs.declared.rule.Rule.{Rule}
use Rattle.fp_base.proofs.Lists.{drop_over}
use Rattle.fp_tables.specs.Lookup.{Described}
use Rattle.fp_tables.specs.Arguments.{Scope}
use Rattle.fp_tables.specs.declared.program.Act.{Act}
use Rattle.fp_scenario.specs.declared.scenario.ActText.{ActText}
use Rattle.fp_scenario_actions.specs.Calling.{Breaks, Plans, scope_after, ActsPlan, BreaksAt, IsListHalt}
use Rattle.fp_scenario_actions.specs.Halts.{IsHalt}
use Rattle.fp_scenario_actions.specs.Listing.{at_position}
use Rattle.fp_scenario_actions.specs.declared.halt.Halt.{Halt}
use Rattle.fp_scenario_actions.specs.declared.halt.Halt.TheVariants as halt
use Rattle.fp_scenario_actions.specs.declared.listing.ListHalt.{ListHalt}
use Rattle.fp_scenario_actions.proofs.Listed.{dropped}

module _ (t : Described) (begins : Scope) (texts : List ActText) where
  abbrev pub Completes : Scope → ℕ → List Act → Type 0
  Completes scope n row = (acts : List Act) → ActsPlan t scope (drop n texts) acts → ActsPlan t begins texts (row ++ acts)

  abbrev pub Reaches : Scope → ℕ → Type 0
  Reaches scope n = (rule : Rule) (m : ℕ) → BreaksAt t rule m scope (drop n texts) → BreaksAt t rule (n + m) begins texts

  pub completes_more : (scope after : Scope) (n : ℕ) (a : ActText) (act : Act) (row longer : List Act) → n < length texts → a ≡ get_or texts n a
      → after ≡ scope_after t a.key a scope → longer ≡ row ++ act ∷ [] → Plans t a.key scope a act → Completes scope n row → Completes after (n + 1) longer
  completes_more scope after n a act row longer lt is after_is longer_is plan h = λ acts rest.
      let whole : ActsPlan t scope (a ∷ drop (n + 1) texts) (act ∷ acts) =
      (plan, subst (λ s. ActsPlan t s (drop (n + 1) texts) acts) after_is rest) in
      subst (λ r. ActsPlan t begins texts (r ++ acts)) (sym longer_is)
      (subst (λ r. ActsPlan t begins texts r) (sym (append_assoc row (act ∷ []) acts))
      (h (act ∷ acts) (subst (λ xs. ActsPlan t scope xs (act ∷ acts)) (sym (dropped texts n a lt is)) whole)))

  pub reaches_more : (scope after : Scope) (n : ℕ) (a : ActText) → n < length texts → a ≡ get_or texts n a → after ≡ scope_after t a.key a scope → Reaches scope n → Reaches after (n + 1)
  reaches_more scope after n a lt is after_is h = λ rule m breaks.
      let same : n + suc m ≡ (n + 1) + m = omega arith in
      subst (λ k. BreaksAt t rule k begins texts) same
      (h rule (suc m) (subst (λ xs. BreaksAt t rule (suc m) scope xs) (sym (dropped texts n a lt is)) (subst (λ s. BreaksAt t rule m s (drop (n + 1) texts)) after_is breaks)))

  broken_here : (scope : Scope) (n : ℕ) (a : ActText) (rule : Rule) → n < length texts → a ≡ get_or texts n a → Breaks t rule a.key scope a → Reaches scope n → BreaksAt t rule n begins texts
  broken_here scope n a rule lt is breaks h =
      let same : n + 0 ≡ n = omega arith in
      subst (λ k. BreaksAt t rule k begins texts) same
      (h rule 0 (subst (λ xs. BreaksAt t rule 0 scope xs) (sym (dropped texts n a lt is)) breaks))

  halted_here : (scope : Scope) (n : ℕ) (a : ActText) (x : Halt) → n < length texts → a ≡ get_or texts n a → IsHalt (λ rule. Breaks t rule a.key scope a) x → Reaches scope n
      → IsListHalt t begins texts (at_position x n)
  halted_here scope n a (halt.Broken rule) lt is h reaches = broken_here scope n a rule lt is h reaches
  halted_here scope n a halt.NoMemory lt is h reaches = tt

  pub list_halted : (scope : Scope) (n : ℕ) (a : ActText) (x : Halt) (y : ListHalt) → n < length texts → a ≡ get_or texts n a → y ≡ at_position x n → IsHalt (λ rule. Breaks t rule a.key scope a) x → Reaches scope n
      → IsListHalt t begins texts y
  list_halted scope n a x y lt is y_is h reaches = subst (λ z. IsListHalt t begins texts z) (sym y_is) (halted_here scope n a x lt is h reaches)

  pub completed : (scope : Scope) (n : ℕ) (row : List Act) → length texts ≤ n → Completes scope n row → ActsPlan t begins texts row
  completed scope n row all h =
      subst (λ r. ActsPlan t begins texts r) (append-nil row) (h [] (subst (λ xs. ActsPlan t scope xs []) (sym (drop_over texts n all)) tt))
