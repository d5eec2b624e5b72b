-- Lists of actions, an action at a time.
use Rattle.std.proofs.Common.{◌≡◌, ℕ, zero, suc, ◌+◌, ◌<◌, ◌≤◌, Bool, List, [], ◌∷◌, ◌++◌, length, drop, get_or, eqb, refl, sym, ap, ◌∙◌, subst, arith, add-one, append_assoc, append-nil}
use Rattle.std.proofs.lemmas.Bool.Decides.{nat_tests}
use Rattle.fp_base.specs.declared.rule.Rule.{Rule}
use Rattle.fp_base.proofs.Lists.{drop_over}
use Rattle.fp_tables.specs.Lookup.{Described}
use Rattle.fp_tables.specs.Arguments.{Scope}
use Rattle.fp_tables.specs.declared.component.Component.{Component}
use Rattle.fp_tables.specs.declared.program.Act.{Act}
use Rattle.fp_tables.specs.declared.program.Spot.{Spot}
use Rattle.fp_scenario.specs.declared.scenario.ActText.{ActText}
use Rattle.fp_scenario_actions.specs.Acting.{Breaks, Plans, scope_after}
use Rattle.fp_scenario_actions.specs.Halts.{IsHalt}
use Rattle.fp_scenario_actions.specs.Listing.{is_end, at_position, ActsPlan, BreaksAt, IsListHalt}
use Rattle.fp_scenario_actions.specs.declared.halt.Halt.{Halt}
use Rattle.fp_scenario_actions.specs.declared.halt.Halt.TheVariants as halt
use Rattle.fp_scenario_actions.specs.declared.listing.ListHalt.{ListHalt}

dropped_at : {A : Type 0} (xs : List A) (i : ℕ) (x : A) → i < length xs → x ≡ get_or xs i x → drop i xs ≡ x ∷ drop (suc i) xs
dropped_at [] i x lt is = absurd (omega arith)
dropped_at (y ∷ ys) zero x lt is = ap (λ z. z ∷ ys) (sym is)
dropped_at (y ∷ ys) (suc i) x lt is = dropped_at ys i x (omega arith) is

pub dropped : {A : Type 0} (xs : List A) (i : ℕ) (x : A) → i < length xs → x ≡ get_or xs i x → drop i xs ≡ x ∷ drop (i + 1) xs
dropped xs i x lt is = rw add-one (dropped_at xs i x lt is)

end_at_length : {A : Type 0} (xs : List A) (i : ℕ) → i < length xs → eqb (suc i) (length xs) ≡ is_end (drop (suc i) xs)
end_at_length [] i lt = absurd (omega arith)
end_at_length (y ∷ []) zero lt = refl
end_at_length (y ∷ z ∷ ys) zero lt = grind (arith, nat_tests)
end_at_length (y ∷ ys) (suc i) lt = one_less (suc i) (length ys) ∙ end_at_length ys i (omega arith)
  where
    one_less : (m n : ℕ) → eqb (suc m) (suc n) ≡ eqb m n
    one_less m n = grind (arith, nat_tests)

pub ends : {A : Type 0} (xs : List A) (i : ℕ) → i < length xs → eqb (i + 1) (length xs) ≡ is_end (drop (i + 1) xs)
ends xs i lt = rw add-one (end_at_length xs i lt)

module _ (t : Described) (i : ℕ) (c : Component) (place : Spot) (begins : Scope) (texts : List ActText) where
  abbrev pub Completes : Scope → ℕ → List Act → Type 0
  Completes scope n row = (acts : List Act) → ActsPlan t i c place scope (drop n texts) acts → ActsPlan t i c place begins texts (row ++ acts)

  abbrev pub Reaches : Scope → ℕ → Type 0
  Reaches scope n = (rule : Rule) (m : ℕ) → BreaksAt t i c place rule m scope (drop n texts) → BreaksAt t i c place rule (n + m) begins texts

  pub completes_more : (scope after : Scope) (n : ℕ) (a : ActText) (act : Act) (row longer : List Act) (last : Bool) → n < length texts → a ≡ get_or texts n a → last ≡ is_end (drop (n + 1) texts)
      → after ≡ scope_after t i c place a.key a scope → longer ≡ row ++ act ∷ [] → Plans t i c place a.key scope last a act → Completes scope n row → Completes after (n + 1) longer
  completes_more scope after n a act row longer last lt is last_is after_is longer_is plan h = λ acts rest.
      let whole : ActsPlan t i c place scope (a ∷ drop (n + 1) texts) (act ∷ acts) =
      (subst (λ b. Plans t i c place a.key scope b a act) last_is plan, subst (λ s. ActsPlan t i c place s (drop (n + 1) texts) acts) after_is rest) in
      subst (λ r. ActsPlan t i c place begins texts (r ++ acts)) (sym longer_is)
      (subst (λ r. ActsPlan t i c place begins texts r) (sym (append_assoc row (act ∷ []) acts))
      (h (act ∷ acts) (subst (λ xs. ActsPlan t i c place scope xs (act ∷ acts)) (sym (dropped texts n a lt is)) whole)))

  pub reaches_more : (scope after : Scope) (n : ℕ) (a : ActText) → n < length texts → a ≡ get_or texts n a → after ≡ scope_after t i c place a.key a scope → Reaches scope n → Reaches after (n + 1)
  reaches_more scope after n a lt is after_is h = λ rule m breaks.
      let same : n + suc m ≡ (n + 1) + m = omega arith in
      subst (λ k. BreaksAt t i c place rule k begins texts) same
      (h rule (suc m) (subst (λ xs. BreaksAt t i c place rule (suc m) scope xs) (sym (dropped texts n a lt is)) (subst (λ s. BreaksAt t i c place rule m s (drop (n + 1) texts)) after_is breaks)))

  broken_here : (scope : Scope) (n : ℕ) (a : ActText) (rule : Rule) (last : Bool) → n < length texts → a ≡ get_or texts n a → last ≡ is_end (drop (n + 1) texts) → Breaks t i c place rule a.key scope last a → Reaches scope n → BreaksAt t i c place rule n begins texts
  broken_here scope n a rule last lt is last_is breaks h =
      let same : n + 0 ≡ n = omega arith in
      subst (λ k. BreaksAt t i c place rule k begins texts) same
      (h rule 0 (subst (λ xs. BreaksAt t i c place rule 0 scope xs) (sym (dropped texts n a lt is)) (subst (λ b. Breaks t i c place rule a.key scope b a) last_is breaks)))

  halted_here : (scope : Scope) (n : ℕ) (a : ActText) (last : Bool) (x : Halt) → n < length texts → a ≡ get_or texts n a → last ≡ is_end (drop (n + 1) texts) → IsHalt (λ rule. Breaks t i c place rule a.key scope last a) x → Reaches scope n
      → IsListHalt t i c place begins texts (at_position x n)
  halted_here scope n a last (halt.Broken rule) lt is last_is h reaches = broken_here scope n a rule last lt is last_is h reaches
  halted_here scope n a last halt.NoMemory lt is last_is h reaches = tt

  pub list_halted : (scope : Scope) (n : ℕ) (a : ActText) (last : Bool) (x : Halt) (y : ListHalt) → n < length texts → a ≡ get_or texts n a → last ≡ is_end (drop (n + 1) texts) → y ≡ at_position x n → IsHalt (λ rule. Breaks t i c place rule a.key scope last a) x → Reaches scope n
      → IsListHalt t i c place begins texts y
  list_halted scope n a last x y lt is last_is y_is h reaches = subst (λ z. IsListHalt t i c place begins texts z) (sym y_is) (halted_here scope n a last x lt is last_is h reaches)

  pub completed : (scope : Scope) (n : ℕ) (row : List Act) → length texts ≤ n → Completes scope n row → ActsPlan t i c place begins texts row
  completed scope n row all h =
      subst (λ r. ActsPlan t i c place begins texts r) (append-nil row) (h [] (subst (λ xs. ActsPlan t i c place scope xs []) (sym (drop_over texts n all)) tt))
