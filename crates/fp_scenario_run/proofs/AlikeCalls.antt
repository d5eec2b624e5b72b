-- The same of a caller's list.
use Rattle.std.proofs.Common.{◌≡◌, ℕ, zero, suc, Bool, ◌&&◌, List, [], ◌∷◌, map, Option, refl, sym, ap, ap₂, ◌∙◌, subst}
use Rattle.serde_json.specs.View.{view}
use Rattle.serde_json.specs.declared.value.Value.{Value as Json}
use Rattle.fp_base.specs.declared.rule.Rule.{Rule}
use Rattle.fp_base.specs.declared.rule.Rule.TheVariants.{UnknownName, BadArgument, NoWire, BadReturn, BadDispatch, ActionNotAllowed}
use Rattle.fp_tables.specs.Lookup.{Described}
use Rattle.fp_tables.specs.Arguments.{Scope}
use Rattle.fp_tables.specs.declared.kind.Kind.{Kind}
use Rattle.fp_tables.specs.declared.topology.End.{End}
use Rattle.fp_tables.specs.declared.program.Act.{Act}
use Rattle.fp_scenario.specs.Same.{IsSameAct, Paired}
use Rattle.fp_scenario.specs.declared.scenario.ActText.{ActText}
use Rattle.fp_scenario.specs.declared.first_key.FirstKey.{FirstKey}
use Rattle.fp_scenario.specs.declared.first_key.FirstKey.TheVariants as key
use Rattle.fp_scenario_actions.specs.Arguments.{AreArguments}
use Rattle.fp_scenario_actions.specs.Acting.{binding}
use Rattle.fp_scenario_actions.specs.Calling.{subject_of, name_in, kinds_in, is_known, is_numbered, scope_after, Breaks, Plans, ActsPlan, BreaksAt}
use Rattle.fp_scenario_run.proofs.AlikeActs.{with_values, alike, bound_alike}

-- what is read off a call
pub record CallReading : Type 0 where
  pub subject : Option End
  pub name : Option ℕ
  pub kinds : Option (List Kind)
  pub bind : Option (List ℕ)
  pub known : Bool
  pub numbered : Bool
  pub after : Scope

module _ (t : Described) where
  abbrev reading : FirstKey → Scope → ActText → CallReading
  reading k scope a = record {
    subject = subject_of t k a;
    name = name_in t k a;
    kinds = kinds_in t k a;
    bind = binding k a;
    known = is_known t k a;
    numbered = is_numbered t k a;
    after = scope_after t k a scope;
  }

  read_alike : (k : FirstKey) (scope : Scope) (a : ActText) (vs : List Json) → reading k scope a ≡ reading k scope (with_values a vs)
  read_alike key.Call scope a vs = refl
  read_alike key.Command scope a vs = refl
  read_alike key.Emit scope a vs = refl
  read_alike key.Write scope a vs = refl
  read_alike key.Read scope a vs = refl
  read_alike key.Signal scope a vs = refl
  read_alike key.Post scope a vs = refl
  read_alike key.Respond scope a vs = refl
  read_alike key.Dispatch scope a vs = refl
  read_alike key.Return scope a vs = refl

  module _ (k : FirstKey) (scope : Scope) (a : ActText) (vs : List Json) (same : map view a.with ≡ map view vs) where
    values_plan : (x : Act) → Plans t k scope a x → Plans t k scope (with_values a vs) x
    values_plan x p =
        let r : reading k scope a ≡ reading k scope (with_values a vs) = read_alike k scope a vs in
        record {
          verb = p.verb;
          subject = sym (ap (λ (z : CallReading). z.subject) r) ∙ p.subject;
          name = sym (ap (λ (z : CallReading). z.name) r) ∙ p.name;
          arguments = (p.arguments.0, sym (ap (λ (z : CallReading). z.kinds) r) ∙ p.arguments.1, subst (λ ds. AreArguments t.model.types scope p.arguments.0 ds x.with) same p.arguments.2);
          bind = p.bind ∙ ap (λ (z : CallReading). z.bind) r;
          numbered = sym (ap (λ (z : CallReading). z.numbered) r) ∙ p.numbered;
          known = sym (ap (λ (z : CallReading). z.known) r) ∙ p.known;
          allowed = p.allowed;
        }

    values_break : (rule : Rule) → Breaks t rule k scope a → Breaks t rule k scope (with_values a vs)
    values_break UnknownName h = (h.0, sym (ap₂ (λ p q. p && q) (ap (λ (z : CallReading). z.known) (read_alike k scope a vs)) (bound_alike scope a vs same)) ∙ h.1)
    values_break BadArgument h = (
      h.0,
      sym (ap (λ (z : CallReading). z.kinds) (read_alike k scope a vs)) ∙ h.1,
      λ given are. h.2 given (subst (λ ds. AreArguments t.model.types scope h.0 ds given) (sym same) are),
    )
    values_break NoWire h = sym (ap (λ (z : CallReading). z.numbered) (read_alike k scope a vs)) ∙ h
    values_break ActionNotAllowed h = h
    values_break BadReturn h = h
    values_break BadDispatch h = h
    values_break _ h = absurd h

  act_plans : (scope : Scope) (a b : ActText) (x : Act) → IsSameAct a b → Plans t a.key scope a x → Plans t b.key scope b x
  act_plans scope a b x h p = subst (λ (z : ActText). Plans t z.key scope z x) (alike a b h) (values_plan a.key scope a b.with h.with_ x p)

  act_breaks : (scope : Scope) (a b : ActText) (rule : Rule) → IsSameAct a b → Breaks t rule a.key scope a → Breaks t rule b.key scope b
  act_breaks scope a b rule h p = subst (λ (z : ActText). Breaks t rule z.key scope z) (alike a b h) (values_break a.key scope a b.with h.with_ rule p)

  after_alike : (scope : Scope) (a b : ActText) → IsSameAct a b → scope_after t a.key a scope ≡ scope_after t b.key b scope
  after_alike scope a b h = ap (λ (z : CallReading). z.after) (read_alike a.key scope a b.with) ∙ ap (λ (z : ActText). scope_after t z.key z scope) (alike a b h)

  pub calls_plan : (scope : Scope) (as_ bs : List ActText) (xs : List Act) → Paired IsSameAct as_ bs → ActsPlan t scope as_ xs → ActsPlan t scope bs xs
  calls_plan scope [] [] [] h p = tt
  calls_plan scope [] [] (x ∷ xs) h p = absurd p
  calls_plan scope [] (b ∷ bs) xs h p = absurd h
  calls_plan scope (a ∷ as_) [] xs h p = absurd h
  calls_plan scope (a ∷ as_) (b ∷ bs) [] h p = absurd p
  calls_plan scope (a ∷ as_) (b ∷ bs) (x ∷ xs) h p =
      (act_plans scope a b x h.0 p.0, subst (λ s. ActsPlan t s bs xs) (after_alike scope a b h.0) (calls_plan (scope_after t a.key a scope) as_ bs xs h.1 p.1))

  pub calls_break : (scope : Scope) (as_ bs : List ActText) (rule : Rule) (n : ℕ) → Paired IsSameAct as_ bs → BreaksAt t rule n scope as_ → BreaksAt t rule n scope bs
  calls_break scope [] bs rule n h p = absurd p
  calls_break scope (a ∷ as_) [] rule n h p = absurd h
  calls_break scope (a ∷ as_) (b ∷ bs) rule zero h p = act_breaks scope a b rule h.0 p
  calls_break scope (a ∷ as_) (b ∷ bs) rule (suc n) h p = subst (λ s. BreaksAt t rule n s bs) (after_alike scope a b h.0) (calls_break (scope_after t a.key a scope) as_ bs rule n h.1 p)
