-- The scenario that a JSON value spells.
use Rattle.std.specs.Prelude.{◌≡◌, ℕ, List, [], ◌∷◌, map, codes, Bool, Option, Some, None, option_map, option_and_then, unwrap_or, ⊤}
use Rattle.serde_json.specs.Data.{Data}
use Rattle.serde_json.specs.Find.{get, as_str, as_bool}
use Rattle.serde_json.specs.View.{view}
use Rattle.fp_scenario.specs.Keys.{key_text, first_of}
use Rattle.fp_scenario.specs.Kinds.{items, natural}
use Rattle.fp_scenario.specs.declared.scenario.Scenario.{Scenario}
use Rattle.fp_scenario.specs.declared.scenario.CallerText.{CallerText}
use Rattle.fp_scenario.specs.declared.scenario.HandlerText.{HandlerText}
use Rattle.fp_scenario.specs.declared.scenario.GuardText.{GuardText}
use Rattle.fp_scenario.specs.declared.scenario.ActText.{ActText}
use Rattle.fp_scenario.specs.declared.first_key.FirstKey.{FirstKey}
use Rattle.fp_scenario.specs.declared.first_key.FirstKey.TheVariants.{Dispatch, Return}

-- the text at a key, empty where the object lacks it
abbrev pub text_at : List ℕ → Data → List ℕ
text_at k d = unwrap_or (option_and_then as_str (get k d)) []

-- the items of the list at a key, none where the object lacks it
abbrev pub items_at : List ℕ → Data → List Data
items_at k d = unwrap_or (option_map items (get k d)) []

abbrev pub number_at : List ℕ → Data → Option ℕ
number_at k d = option_and_then natural (get k d)

-- the objects of two lists, one by one
abbrev pub EachSpelled : {A : Type 0} → (Data → A → Type 0) → List Data → List A → Type 0
EachSpelled P [] [] = ⊤
EachSpelled P [] (a ∷ as_) = ⊥
EachSpelled P (d ∷ ds) [] = ⊥
EachSpelled P (d ∷ ds) (a ∷ as_) = P d a × EachSpelled P ds as_

-- what stands at the first key, where it is a text
abbrev pub first_text : FirstKey → Data → List ℕ
first_text Dispatch d = []
first_text Return d = []
first_text key d = text_at (key_text key) d

abbrev pub one_of : Option Data → List Data
one_of None = []
one_of (Some d) = d ∷ []

-- the values at `with`, and at `return` the value itself
abbrev pub given : FirstKey → Data → List Data
given Return d = one_of (get (codes "return") d)
given key d = items_at (codes "with") d

pub record IsAct (d : Data) (act : ActText) : Type 0 where
  pub key : Some act.key ≡ first_of d
  pub first : act.first ≡ first_text act.key d
  pub at : act.at ≡ unwrap_or (number_at (codes "at") d) 0
  pub name : act.name ≡ text_at (codes "name") d
  pub with_ : map view act.with ≡ given act.key d
  pub as_ : act.as_ ≡ option_and_then as_str (get (codes "as") d)

pub record IsCaller (d : Data) (caller : CallerText) : Type 0 where
  pub name : caller.name ≡ text_at (codes "name") d
  pub do_ : EachSpelled IsAct (items_at (codes "do") d) caller.do_

pub record IsHandler (d : Data) (handler : HandlerText) : Type 0 where
  pub of : handler.of ≡ text_at (codes "of") d
  pub on_ : handler.on_ ≡ text_at (codes "on") d
  pub do_ : EachSpelled IsAct (items_at (codes "do") d) handler.do_

abbrev pub IsAnswer : Data → Bool → Type 0
IsAnswer d answer = as_bool d ≡ Some answer

pub record IsGuard (d : Data) (guard : GuardText) : Type 0 where
  pub of : guard.of ≡ text_at (codes "of") d
  pub machine : guard.machine ≡ text_at (codes "machine") d
  pub guard_name : guard.guard ≡ text_at (codes "guard") d
  pub answers : EachSpelled IsAnswer (items_at (codes "answers") d) guard.answers

pub record Spells (d : Data) (scenario : Scenario) : Type 0 where
  pub steps : scenario.steps ≡ unwrap_or (number_at (codes "steps") d) 10000
  pub callers : EachSpelled IsCaller (items_at (codes "callers") d) scenario.callers
  pub handlers : EachSpelled IsHandler (items_at (codes "handlers") d) scenario.handlers
  pub guards : EachSpelled IsGuard (items_at (codes "guards") d) scenario.guards
