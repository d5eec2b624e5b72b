-- An action means the same whatever JSON values its data stand in: a handler's list and its like are planned alike, and break the same rules.
use Rattle.std.proofs.Common.{◌≡◌, ℕ, zero, suc, Bool, not, ◌&&◌, List, [], ◌∷◌, map, Option, is_some, refl, sym, ap, ap₂, ◌∙◌, subst}
use Rattle.std.specs.List.{list_all}
use Rattle.std.proofs.lemmas.List.Folds.{list_all-map}
use Rattle.serde_json.specs.View.{view}
use Rattle.serde_json.specs.declared.value.Value.{Value as Json}
use Rattle.fp_base.specs.declared.rule.Rule.{Rule}
use Rattle.fp_base.specs.declared.rule.Rule.TheVariants.{UnknownName, BadArgument, NoWire, BadReturn, BadDispatch, ActionNotAllowed}
use Rattle.fp_tables.specs.Lookup.{Described}
use Rattle.fp_tables.specs.Arguments.{Scope}
use Rattle.fp_tables.specs.Programs.{returned_at}
use Rattle.fp_tables.specs.declared.kind.Kind.{Kind}
use Rattle.fp_tables.specs.declared.component.Component.{Component}
use Rattle.fp_tables.specs.declared.topology.End.{End}
use Rattle.fp_tables.specs.declared.program.Act.{Act}
use Rattle.fp_tables.specs.declared.program.Spot.{Spot}
use Rattle.fp_scenario.specs.Same.{IsSameAct, Paired}
use Rattle.fp_scenario.specs.declared.scenario.ActText.{ActText}
use Rattle.fp_scenario.specs.declared.first_key.FirstKey.{FirstKey}
use Rattle.fp_scenario.specs.declared.first_key.FirstKey.TheVariants as key
use Rattle.fp_scenario_actions.specs.Arguments.{AreArguments, is_bound}
use Rattle.fp_scenario_actions.specs.Acting.{binding, names_are_bound, subject_of, name_in, kinds_in, is_known, is_wired, is_allowed, scope_after, Breaks, Plans}
use Rattle.fp_scenario_actions.specs.Listing.{is_end, is_return, ends_in_return, lacks_return, ActsPlan, BreaksAt}

-- ---- one action with other JSON values

abbrev pub with_values : ActText → List Json → ActText
with_values a vs = record { key = a.key; first = a.first; at = a.at; name = a.name; with = vs; as_ = a.as_ }

pub alike : (a b : ActText) → IsSameAct a b → with_values a b.with ≡ b
alike a b h = λ j. record { key = h.key j; first = h.first j; at = h.at j; name = h.name j; with = b.with; as_ = h.as_ j }

pub bound_alike : (scope : Scope) (a : ActText) (vs : List Json) → map view a.with ≡ map view vs → names_are_bound scope a ≡ names_are_bound scope (with_values a vs)
bound_alike scope a vs same = sym (list_all-map (is_bound scope) view a.with) ∙ (ap (list_all (is_bound scope)) same ∙ list_all-map (is_bound scope) view vs)

-- what is read off an action
pub record Reading : Type 0 where
  pub subject : Option End
  pub name : Option ℕ
  pub kinds : Option (List Kind)
  pub bind : Option (List ℕ)
  pub known : Bool
  pub wired : Bool
  pub allowed : Bool
  pub after : Scope

module _ (t : Described) (i : ℕ) (c : Component) (place : Spot) where
  abbrev reading : FirstKey → Scope → ActText → Reading
  reading k scope a = record {
    subject = subject_of t i c place k a;
    name = name_in t i c place k a;
    kinds = kinds_in t i c place k a;
    bind = binding k a;
    known = is_known t i c place k a;
    wired = is_wired t i c place k a;
    allowed = is_allowed t i c place k a;
    after = scope_after t i c place k a scope;
  }

  read_alike : (k : FirstKey) (scope : Scope) (a : ActText) (vs : List Json) → reading k scope a ≡ reading k scope (with_values a vs)
  read_alike key.Call scope a vs = refl
  read_alike key.Command scope a vs = refl
  read_alike key.Emit scope a vs = refl
  read_alike key.Write scope a vs = refl
  read_alike key.Read scope a vs = refl
  read_alike key.Signal scope a vs = refl
  read_alike key.Post scope a vs = refl
  read_alike key.Respond scope a vs = refl
  read_alike key.Dispatch scope a vs = refl
  read_alike key.Return scope a vs = refl

  module _ (k : FirstKey) (scope : Scope) (last : Bool) (a : ActText) (vs : List Json) (same : map view a.with ≡ map view vs) where
    values_plan : (x : Act) → Plans t i c place k scope last a x → Plans t i c place k scope last (with_values a vs) x
    values_plan x p =
        let r : reading k scope a ≡ reading k scope (with_values a vs) = read_alike k scope a vs in
        record {
          verb = p.verb;
          subject = sym (ap (λ (z : Reading). z.subject) r) ∙ p.subject;
          name = sym (ap (λ (z : Reading). z.name) r) ∙ p.name;
          arguments = (p.arguments.0, sym (ap (λ (z : Reading). z.kinds) r) ∙ p.arguments.1, subst (λ ds. AreArguments t.model.types scope p.arguments.0 ds x.with) same p.arguments.2);
          bind = p.bind ∙ ap (λ (z : Reading). z.bind) r;
          known = sym (ap (λ (z : Reading). z.known) r) ∙ p.known;
          wired = sym (ap (λ (z : Reading). z.wired) r) ∙ p.wired;
          allowed = sym (ap (λ (z : Reading). z.allowed) r) ∙ p.allowed;
          returned = p.returned;
          dispatched = p.dispatched;
        }

    values_break : (rule : Rule) → Breaks t i c place rule k scope last a → Breaks t i c place rule k scope last (with_values a vs)
    values_break UnknownName h = sym (ap₂ (λ p q. p && q) (ap (λ (z : Reading). z.known) (read_alike k scope a vs)) (bound_alike scope a vs same)) ∙ h
    values_break BadArgument h = (
      h.0,
      sym (ap (λ (z : Reading). z.kinds) (read_alike k scope a vs)) ∙ h.1,
      λ given are. h.2 given (subst (λ ds. AreArguments t.model.types scope h.0 ds given) (sym same) are),
    )
    values_break NoWire h = sym (ap (λ (z : Reading). z.wired) (read_alike k scope a vs)) ∙ h
    values_break ActionNotAllowed h = sym (ap (λ (z : Reading). z.allowed) (read_alike k scope a vs)) ∙ h
    values_break BadReturn h = h
    values_break BadDispatch h = h
    values_break _ h = absurd h

  -- ---- an action and its like

  act_plans : (scope : Scope) (last : Bool) (a b : ActText) (x : Act) → IsSameAct a b → Plans t i c place a.key scope last a x → Plans t i c place b.key scope last b x
  act_plans scope last a b x h p = subst (λ (z : ActText). Plans t i c place z.key scope last z x) (alike a b h) (values_plan a.key scope last a b.with h.with_ x p)

  act_breaks : (scope : Scope) (last : Bool) (a b : ActText) (rule : Rule) → IsSameAct a b → Breaks t i c place rule a.key scope last a → Breaks t i c place rule b.key scope last b
  act_breaks scope last a b rule h p = subst (λ (z : ActText). Breaks t i c place rule z.key scope last z) (alike a b h) (values_break a.key scope last a b.with h.with_ rule p)

  after_alike : (scope : Scope) (a b : ActText) → IsSameAct a b → scope_after t i c place a.key a scope ≡ scope_after t i c place b.key b scope
  after_alike scope a b h = ap (λ (z : Reading). z.after) (read_alike a.key scope a b.with) ∙ ap (λ (z : ActText). scope_after t i c place z.key z scope) (alike a b h)

  -- ---- lists

  ends_alike : (as_ bs : List ActText) → Paired IsSameAct as_ bs → is_end as_ ≡ is_end bs
  ends_alike [] [] h = refl
  ends_alike [] (b ∷ bs) h = absurd h
  ends_alike (a ∷ as_) [] h = absurd h
  ends_alike (a ∷ as_) (b ∷ bs) h = refl

  pub acts_plan : (scope : Scope) (as_ bs : List ActText) (xs : List Act) → Paired IsSameAct as_ bs → ActsPlan t i c place scope as_ xs → ActsPlan t i c place scope bs xs
  acts_plan scope [] [] [] h p = tt
  acts_plan scope [] [] (x ∷ xs) h p = absurd p
  acts_plan scope [] (b ∷ bs) xs h p = absurd h
  acts_plan scope (a ∷ as_) [] xs h p = absurd h
  acts_plan scope (a ∷ as_) (b ∷ bs) [] h p = absurd p
  acts_plan scope (a ∷ as_) (b ∷ bs) (x ∷ xs) h p = (
    act_plans scope (is_end bs) a b x h.0 (subst (λ last. Plans t i c place a.key scope last a x) (ends_alike as_ bs h.1) p.0),
    subst (λ s. ActsPlan t i c place s bs xs) (after_alike scope a b h.0) (acts_plan (scope_after t i c place a.key a scope) as_ bs xs h.1 p.1),
  )

  pub acts_break : (scope : Scope) (as_ bs : List ActText) (rule : Rule) (n : ℕ) → Paired IsSameAct as_ bs → BreaksAt t i c place rule n scope as_ → BreaksAt t i c place rule n scope bs
  acts_break scope [] bs rule n h p = absurd p
  acts_break scope (a ∷ as_) [] rule n h p = absurd h
  acts_break scope (a ∷ as_) (b ∷ bs) rule zero h p = act_breaks scope (is_end bs) a b rule h.0 (subst (λ last. Breaks t i c place rule a.key scope last a) (ends_alike as_ bs h.1) p)
  acts_break scope (a ∷ as_) (b ∷ bs) rule (suc n) h p = subst (λ s. BreaksAt t i c place rule n s bs) (after_alike scope a b h.0) (acts_break (scope_after t i c place a.key a scope) as_ bs rule n h.1 p)

  returns_alike : (as_ bs : List ActText) → Paired IsSameAct as_ bs → ends_in_return as_ ≡ ends_in_return bs
  returns_alike [] [] h = refl
  returns_alike [] (b ∷ bs) h = absurd h
  returns_alike (a ∷ as_) [] h = absurd h
  returns_alike (a ∷ []) (b ∷ []) h = ap is_return h.0.key
  returns_alike (a ∷ []) (b ∷ d ∷ bs) h = absurd h.1
  returns_alike (a ∷ e ∷ as_) (b ∷ []) h = absurd h.1
  returns_alike (a ∷ e ∷ as_) (b ∷ d ∷ bs) h = returns_alike (e ∷ as_) (d ∷ bs) h.1

  pub lacks_alike : (as_ bs : List ActText) → Paired IsSameAct as_ bs → lacks_return t i c place as_ ≡ lacks_return t i c place bs
  lacks_alike as_ bs h = ap (λ ends. is_some (returned_at t i place) && not ends) (returns_alike as_ bs h)
