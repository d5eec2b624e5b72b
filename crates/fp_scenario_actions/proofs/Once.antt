-- Texts of actions are planned as one list of actions.
use Rattle.std.proofs.Common.{◌≡◌, ℕ, Bool, List, [], ◌∷◌, map, Option, Some, refl, sym, ap₂, ◌∙◌, subst}
use Rattle.serde_json.specs.View.{view}
use Rattle.fp_base.proofs.Options.{one_some}
use Rattle.fp_tables.specs.Lookup.{Described}
use Rattle.fp_tables.specs.Arguments.{Scope}
use Rattle.fp_tables.specs.declared.kind.Kind.{Kind}
use Rattle.fp_tables.specs.declared.component.Component.{Component}
use Rattle.fp_tables.specs.declared.topology.End.{End}
use Rattle.fp_tables.specs.declared.program.Act.{Act}
use Rattle.fp_tables.specs.declared.program.Arg.{Arg}
use Rattle.fp_tables.specs.declared.program.Spot.{Spot}
use Rattle.fp_tables.specs.declared.program.Verb.{Verb}
use Rattle.fp_scenario.specs.declared.scenario.ActText.{ActText}
use Rattle.fp_scenario.specs.declared.first_key.FirstKey.{FirstKey}
use Rattle.fp_scenario_actions.specs.Arguments.{AreArguments}
use Rattle.fp_scenario_actions.proofs.ValueOnce.{one_row}
use Rattle.fp_scenario_actions.specs.Acting as acting
use Rattle.fp_scenario_actions.specs.Calling as calling
use Rattle.fp_scenario_actions.specs.Listing as listing

same_act : (x y : Act) → x.verb ≡ y.verb → x.subject ≡ y.subject → x.name ≡ y.name → x.with ≡ y.with → x.bind ≡ y.bind → x ≡ y
same_act x y verb subject name with bind = λ i. record { verb = verb i; subject = subject i; name = name i; with = with i; bind = bind i }

module _ (t : Described) (scope : Scope) (a : ActText) where
  one_row_of : (kinds : Option (List Kind)) (xs ys : List Arg)
      → (ks : List Kind) × (kinds ≡ Some ks) × AreArguments t.model.types scope ks (map view a.with) xs
      → (ks : List Kind) × (kinds ≡ Some ks) × AreArguments t.model.types scope ks (map view a.with) ys → xs ≡ ys
  one_row_of kinds xs ys h g =
      let same_kinds : g.0 ≡ h.0 = one_some kinds g.0 h.0 g.1 h.1 in
      one_row t.model.types scope h.0 (map view a.with) xs ys h.2 (subst (λ ks. AreArguments t.model.types scope ks (map view a.with) ys) same_kinds g.2)

-- ---- a handler's

module _ (t : Described) (i : ℕ) (c : Component) (place : Spot) where
  one_act : (k : FirstKey) (scope : Scope) (last : Bool) (a : ActText) (x y : Act) → acting.Plans t i c place k scope last a x → acting.Plans t i c place k scope last a y → x ≡ y
  one_act k scope last a x y h g =
      same_act x y (h.verb ∙ sym g.verb) (one_some (acting.subject_of t i c place k a) x.subject y.subject h.subject g.subject) (one_some (acting.name_in t i c place k a) x.name y.name h.name g.name)
      (one_row_of t scope a (acting.kinds_in t i c place k a) x.with y.with h.arguments g.arguments) (h.bind ∙ sym g.bind)

  pub one_list : (scope : Scope) (texts : List ActText) (xs ys : List Act) → listing.ActsPlan t i c place scope texts xs → listing.ActsPlan t i c place scope texts ys → xs ≡ ys
  one_list scope [] [] [] h g = refl
  one_list scope [] [] (y ∷ ys) h g = absurd g
  one_list scope [] (x ∷ xs) ys h g = absurd h
  one_list scope (a ∷ rest) [] ys h g = absurd h
  one_list scope (a ∷ rest) (x ∷ xs) [] h g = absurd g
  one_list scope (a ∷ rest) (x ∷ xs) (y ∷ ys) h g =
      ap₂ (λ (b : Act) (bs : List Act). b ∷ bs) (one_act a.key scope (listing.is_end rest) a x y h.0 g.0) (one_list (acting.scope_after t i c place a.key a scope) rest xs ys h.1 g.1)

-- ---- a caller's

module _ (t : Described) where
  one_call : (k : FirstKey) (scope : Scope) (a : ActText) (x y : Act) → calling.Plans t k scope a x → calling.Plans t k scope a y → x ≡ y
  one_call k scope a x y h g =
      same_act x y (h.verb ∙ sym g.verb) (one_some (calling.subject_of t k a) x.subject y.subject h.subject g.subject) (one_some (calling.name_in t k a) x.name y.name h.name g.name)
      (one_row_of t scope a (calling.kinds_in t k a) x.with y.with h.arguments g.arguments) (h.bind ∙ sym g.bind)

  pub one_list_of_calls : (scope : Scope) (texts : List ActText) (xs ys : List Act) → calling.ActsPlan t scope texts xs → calling.ActsPlan t scope texts ys → xs ≡ ys
  one_list_of_calls scope [] [] [] h g = refl
  one_list_of_calls scope [] [] (y ∷ ys) h g = absurd g
  one_list_of_calls scope [] (x ∷ xs) ys h g = absurd h
  one_list_of_calls scope (a ∷ rest) [] ys h g = absurd h
  one_list_of_calls scope (a ∷ rest) (x ∷ xs) [] h g = absurd g
  one_list_of_calls scope (a ∷ rest) (x ∷ xs) (y ∷ ys) h g =
      ap₂ (λ (b : Act) (bs : List Act). b ∷ bs) (one_call a.key scope a x y h.0 g.0) (one_list_of_calls (calling.scope_after t a.key a scope) rest xs ys h.1 g.1)
