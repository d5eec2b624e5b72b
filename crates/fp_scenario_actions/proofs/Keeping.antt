-- What is planned breaks no rule.
use Rattle.std.proofs.Common.{◌≡◌, ℕ, zero, suc, Bool, true, ◌&&◌, List, [], ◌∷◌, map, is_some, refl, sym, ap, ◌∙◌, subst}
use Rattle.std.specs.List.{list_all}
use Rattle.serde_json.specs.Data as json
use Rattle.serde_json.specs.View.{view}
use Rattle.serde_json.specs.declared.value.Value.{Value as Json}
use Rattle.fp_base.proofs.Bools.{join, not_both}
use Rattle.fp_base.proofs.Options.{same_some}
use Rattle.fp_base.specs.declared.rule.Rule.{Rule}
use Rattle.fp_base.specs.declared.rule.Rule.TheVariants.{UnknownName, BadArgument, NoWire, BadReturn, BadDispatch, ActionNotAllowed}
use Rattle.fp_tables.specs.Lists.{if_some}
use Rattle.fp_tables.specs.Lookup.{Described}
use Rattle.fp_tables.specs.Arguments.{Scope}
use Rattle.fp_tables.specs.declared.kind.Kind.{Kind}
use Rattle.fp_tables.specs.declared.kind.TypeDef.{TypeDef}
use Rattle.fp_tables.specs.declared.component.Component.{Component}
use Rattle.fp_tables.specs.declared.program.Act.{Act}
use Rattle.fp_tables.specs.declared.program.Arg.{Arg}
use Rattle.fp_tables.specs.declared.program.Spot.{Spot}
use Rattle.fp_scenario.specs.declared.scenario.ActText.{ActText}
use Rattle.fp_scenario.specs.declared.first_key.FirstKey.{FirstKey}
use Rattle.fp_scenario_actions.specs.Arguments.{is_bound, IsArgument, bound, value, AreArguments}
use Rattle.fp_scenario_actions.specs.Acting.{names_are_bound, is_known, scope_after, Breaks, Plans}
use Rattle.fp_scenario_actions.specs.Listing.{is_end, ActsPlan, BreaksAt}

module _ (types : List TypeDef) (scope : Scope) where
  argument_bound : {k : Kind} {d : json.Data} {a : Arg} → IsArgument types scope k d a → is_bound scope d ≡ true
  argument_bound (bound is found same) = ap (if_some (λ n. is_some (scope n))) is ∙ ap is_some found
  argument_bound (value is h) = ap (if_some (λ n. is_some (scope n))) is

  pub all_bound : (ks : List Kind) (xs : List Json) (as_ : List Arg) → AreArguments types scope ks (map view xs) as_ → list_all (λ (x : Json). is_bound scope (view x)) xs ≡ true
  all_bound ks [] as_ h = refl
  all_bound [] (x ∷ xs) as_ h = absurd h
  all_bound (k ∷ ks) (x ∷ xs) [] h = absurd h
  all_bound (k ∷ ks) (x ∷ xs) (a ∷ as_) h = join _ _ (argument_bound h.0) (all_bound ks xs as_ h.1)

module _ (t : Described) (i : ℕ) (c : Component) (place : Spot) where
  keeps_names : (k : FirstKey) (scope : Scope) (last : Bool) (a : ActText) (act : Act) → Plans t i c place k scope last a act → (is_known t i c place k a && names_are_bound scope a) ≡ true
  keeps_names k scope last a act plan = join _ _ plan.known (all_bound t.model.types scope plan.arguments.0 a.with act.with plan.arguments.2)

  plan_breaks_nothing : (k : FirstKey) (scope : Scope) (last : Bool) (a : ActText) (act : Act) (rule : Rule) → Plans t i c place k scope last a act → Breaks t i c place rule k scope last a → ⊥
  plan_breaks_nothing k scope last a act UnknownName plan h = not_both (keeps_names k scope last a act plan) h
  plan_breaks_nothing k scope last a act BadArgument plan h =
      h.2 act.with (subst (λ ks. AreArguments t.model.types scope ks (map view a.with) act.with) (same_some (sym plan.arguments.1 ∙ h.1)) plan.arguments.2)
  plan_breaks_nothing k scope last a act NoWire plan h = not_both plan.wired h
  plan_breaks_nothing k scope last a act ActionNotAllowed plan h = not_both plan.allowed h
  plan_breaks_nothing k scope last a act BadReturn plan h = not_both plan.returned h
  plan_breaks_nothing k scope last a act BadDispatch plan h = not_both plan.dispatched h
  plan_breaks_nothing k scope last a act _ plan h = absurd h

  pub acts_break_nothing : (scope : Scope) (texts : List ActText) (acts : List Act) (rule : Rule) (n : ℕ) → ActsPlan t i c place scope texts acts → BreaksAt t i c place rule n scope texts → ⊥
  acts_break_nothing scope [] acts rule n plan h = absurd h
  acts_break_nothing scope (a ∷ rest) [] rule n plan h = absurd plan
  acts_break_nothing scope (a ∷ rest) (x ∷ acts) rule zero plan h = plan_breaks_nothing a.key scope (is_end rest) a x rule plan.0 h
  acts_break_nothing scope (a ∷ rest) (x ∷ acts) rule (suc n) plan h = acts_break_nothing (scope_after t i c place a.key a scope) rest acts rule n plan.1 h
