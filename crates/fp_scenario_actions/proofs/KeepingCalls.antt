-- What is planned of callers breaks no rule.
use Rattle.std.proofs.Common.{◌≡◌, ℕ, zero, suc, true, false, List, [], ◌∷◌, map, sym, ◌∙◌, subst}
use Rattle.serde_json.specs.View.{view}
use Rattle.fp_base.specs.declared.rule.Rule.{Rule}
use Rattle.fp_base.specs.declared.rule.Rule.TheVariants.{UnknownName, BadArgument, NoWire, BadReturn, BadDispatch, ActionNotAllowed}
use Rattle.fp_tables.specs.Lookup.{Described}
use Rattle.fp_tables.specs.Arguments.{Scope}
use Rattle.fp_tables.specs.declared.program.Act.{Act}
use Rattle.fp_scenario.specs.declared.scenario.ActText.{ActText}
use Rattle.fp_scenario.specs.declared.first_key.FirstKey.{FirstKey}
use Rattle.fp_scenario.specs.declared.first_key.FirstKey.TheVariants as key
use Rattle.fp_scenario_actions.specs.Arguments.{AreArguments}
use Rattle.fp_scenario_actions.specs.Calling.{is_call, is_return, is_dispatch, scope_after, Breaks, Plans, ActsPlan, BreaksAt}
use Rattle.fp_base.proofs.Bools.{join, not_both}
use Rattle.fp_base.proofs.Options.{same_some}
use Rattle.fp_scenario_actions.proofs.Keeping.{all_bound}

not_true : false ≡ true → ⊥
not_true e = cc

module _ (t : Described) where
  no_return : (k : FirstKey) → is_call t k ≡ true → is_return t k ≡ true → ⊥
  no_return key.Call e f = not_true f
  no_return key.Command e f = not_true f
  no_return key.Emit e f = not_true f
  no_return key.Write e f = not_true f
  no_return key.Read e f = not_true f
  no_return key.Signal e f = not_true f
  no_return key.Post e f = not_true f
  no_return key.Respond e f = not_true f
  no_return key.Dispatch e f = not_true f
  no_return key.Return e f = not_true e

  no_dispatch : (k : FirstKey) → is_call t k ≡ true → is_dispatch t k ≡ true → ⊥
  no_dispatch key.Call e f = not_true f
  no_dispatch key.Command e f = not_true f
  no_dispatch key.Emit e f = not_true f
  no_dispatch key.Write e f = not_true f
  no_dispatch key.Read e f = not_true f
  no_dispatch key.Signal e f = not_true f
  no_dispatch key.Post e f = not_true f
  no_dispatch key.Respond e f = not_true f
  no_dispatch key.Dispatch e f = not_true e
  no_dispatch key.Return e f = not_true f

  pub plan_breaks_nothing : (k : FirstKey) (scope : Scope) (a : ActText) (act : Act) (rule : Rule) → Plans t k scope a act → Breaks t rule k scope a → ⊥
  plan_breaks_nothing k scope a act UnknownName plan h = not_both (join _ _ plan.known (all_bound t.model.types scope plan.arguments.0 a.with act.with plan.arguments.2)) h.1
  plan_breaks_nothing k scope a act BadArgument plan h =
      h.2 act.with (subst (λ ks. AreArguments t.model.types scope ks (map view a.with) act.with) (same_some (sym plan.arguments.1 ∙ h.1)) plan.arguments.2)
  plan_breaks_nothing k scope a act NoWire plan h = not_both plan.numbered h
  plan_breaks_nothing k scope a act ActionNotAllowed plan h = not_both plan.allowed h
  plan_breaks_nothing k scope a act BadReturn plan h = no_return k plan.allowed h
  plan_breaks_nothing k scope a act BadDispatch plan h = no_dispatch k plan.allowed h
  plan_breaks_nothing k scope a act _ plan h = absurd h

  pub calls_break_nothing : (scope : Scope) (texts : List ActText) (acts : List Act) (rule : Rule) (n : ℕ) → ActsPlan t scope texts acts → BreaksAt t rule n scope texts → ⊥
  calls_break_nothing scope [] acts rule n plan h = absurd h
  calls_break_nothing scope (a ∷ rest) [] rule n plan h = absurd plan
  calls_break_nothing scope (a ∷ rest) (x ∷ acts) rule zero plan h = plan_breaks_nothing a.key scope a x rule plan.0 h
  calls_break_nothing scope (a ∷ rest) (x ∷ acts) rule (suc n) plan h = calls_break_nothing (scope_after t a.key a scope) rest acts rule n plan.1 h
