-- Scenarios that can't be told apart, their JSON values seen as data, and what every scenario of a text keeps.
use Rattle.std.specs.Prelude.{◌≡◌, ◌≤◌, List, [], ◌∷◌, map, length, true, is_some, ⊤}
use Rattle.std.specs.List.{AllByRecursion}
use Rattle.serde_json.specs.Data.{Data}
use Rattle.serde_json.specs.View.{view}
use Rattle.fp_scenario.specs.Checked.{IsSound}
use Rattle.fp_scenario.specs.Kinds.{is_identifier}
use Rattle.fp_scenario.specs.Spelled.{Spells}
use Rattle.fp_scenario.specs.declared.scenario.Scenario.{Scenario}
use Rattle.fp_scenario.specs.declared.scenario.CallerText.{CallerText}
use Rattle.fp_scenario.specs.declared.scenario.HandlerText.{HandlerText}
use Rattle.fp_scenario.specs.declared.scenario.GuardText.{GuardText}
use Rattle.fp_scenario.specs.declared.scenario.ActText.{ActText}
use Rattle.fp_scenario.specs.declared.first_key.FirstKey.TheVariants.{Read, Respond}
use Rattle.fp_scenario.specs.declared.wanted.Wanted.TheVariants as wanted

abbrev pub Paired : {A : Type 0} → (A → A → Type 0) → List A → List A → Type 0
Paired P [] [] = ⊤
Paired P [] (b ∷ bs) = ⊥
Paired P (a ∷ as_) [] = ⊥
Paired P (a ∷ as_) (b ∷ bs) = P a b × Paired P as_ bs

pub record IsSameAct (a b : ActText) : Type 0 where
  pub key : a.key ≡ b.key
  pub first : a.first ≡ b.first
  pub at : a.at ≡ b.at
  pub name : a.name ≡ b.name
  pub with_ : map view a.with ≡ map view b.with
  pub as_ : a.as_ ≡ b.as_

pub record IsSameCaller (a b : CallerText) : Type 0 where
  pub name : a.name ≡ b.name
  pub do_ : Paired IsSameAct a.do_ b.do_

pub record IsSameHandler (a b : HandlerText) : Type 0 where
  pub of : a.of ≡ b.of
  pub on_ : a.on_ ≡ b.on_
  pub do_ : Paired IsSameAct a.do_ b.do_

pub record IsSameGuard (a b : GuardText) : Type 0 where
  pub of : a.of ≡ b.of
  pub machine : a.machine ≡ b.machine
  pub guard_name : a.guard ≡ b.guard
  pub answers : a.answers ≡ b.answers

pub record IsSame (a b : Scenario) : Type 0 where
  pub steps : a.steps ≡ b.steps
  pub callers : Paired IsSameCaller a.callers b.callers
  pub handlers : Paired IsSameHandler a.handlers b.handlers
  pub guards : Paired IsSameGuard a.guards b.guards

-- the scenario of some value that breaks no rule: the condition under which a scenario is looked up in a model
abbrev pub IsOfText : Scenario → Type 0
IsOfText scenario = (d : Data) × IsSound wanted.Scenario d × Spells d scenario

-- an action that responds has an identifier, and one that reads a name for what it reads
pub record IsNamed (act : ActText) : Type 0 where
  pub responds : act.key ≡ Respond → is_identifier act.first ≡ true
  pub reads : act.key ≡ Read → is_some act.as_ ≡ true

-- the limits that such a scenario keeps, and its names
pub record IsKept (scenario : Scenario) : Type 0 where
  pub some_steps : 1 ≤ scenario.steps
  pub few_steps : scenario.steps ≤ 20000
  pub few_callers : length scenario.callers ≤ 32
  pub callers : AllByRecursion (λ (caller : CallerText). (is_identifier caller.name ≡ true) × (length caller.do_ ≤ 1000) × AllByRecursion IsNamed caller.do_) scenario.callers
  pub handlers : AllByRecursion (λ (handler : HandlerText). (length handler.do_ ≤ 1000) × AllByRecursion IsNamed handler.do_) scenario.handlers
  pub guards : AllByRecursion (λ (guard : GuardText). (1 ≤ length guard.answers) × (length guard.answers ≤ 1024)) scenario.guards
