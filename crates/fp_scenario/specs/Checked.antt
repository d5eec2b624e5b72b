-- What a check of a value answers.
use Rattle.std.specs.Prelude.{◌≡◌, ℕ, List, true, Some, slice_get, ⊤}
use Rattle.serde_json.specs.Data.{Data}
use Rattle.serde_json.specs.Find.{get, at}
use Rattle.fp_base.specs.declared.rule.Rule.{Rule}
use Rattle.fp_scenario.specs.Keys.{wants_object, wanted_at, wanted_of_items}
use Rattle.fp_scenario.specs.Broken.{Breaks, IsTextBroken, below, named}
use Rattle.fp_scenario.specs.declared.scenario.ScenarioStop.{ScenarioStop}
use Rattle.fp_scenario.specs.declared.scenario.ScenarioStop.TheVariants.{Broken, NoMemory}
use Rattle.fp_scenario.specs.declared.wanted.Wanted.{Wanted}
use Rattle.fp_scenario.specs.declared.wanted.Wanted.TheVariants.{Scenario}

-- no part of the value has a flaw
abbrev pub IsSound : Wanted → Data → Type 0
IsSound w d = (rule : Rule) (path : List ℕ) → Breaks w d rule path → ⊥

abbrev pub ItemsAreSound : Wanted → Data → Type 0
ItemsAreSound w d = (i : ℕ) (x : Data) (v : Wanted) → at i d ≡ Some x → wanted_of_items w ≡ Some v → IsSound v x

-- each key is known, and what stands there is sound
abbrev pub MembersAreSound : Wanted → Data → Type 0
MembersAreSound w d = (k : List ℕ) (x : Data) → get k d ≡ Some x → wants_object w ≡ true → (v : Wanted) × (wanted_at w d k ≡ Some v) × IsSound v x

-- a stop for want of memory, or by this rule at this path
abbrev pub Stops : Rule → List ℕ → ScenarioStop → Type 0
Stops rule path (Broken stop) = (stop.rule ≡ rule) × (stop.path ≡ path)
Stops rule path NoMemory = ⊤

-- the same stop, seen from one step above
abbrev pub StopsBelow : List ℕ → ScenarioStop → ScenarioStop → Type 0
StopsBelow step (Broken stop) seen = Stops stop.rule (below step stop.path) seen
StopsBelow step NoMemory seen = seen ≡ NoMemory

-- a stop for want of memory, or by a rule that the value breaks
abbrev pub IsFault : Wanted → Data → ScenarioStop → Type 0
IsFault w d (Broken stop) = Breaks w d stop.rule stop.path
IsFault w d NoMemory = ⊤

-- the same stop, with the path as it is named
abbrev pub Names : ScenarioStop → ScenarioStop → Type 0
Names (Broken stop) seen = Stops stop.rule (named stop.path) seen
Names NoMemory seen = seen ≡ NoMemory

-- a stop for want of memory, or by a rule that the whole value breaks, with the path as it is named
abbrev pub IsFaultNamed : Data → ScenarioStop → Type 0
IsFaultNamed d (Broken stop) = (inner : List ℕ) × Breaks Scenario d stop.rule inner × (stop.path ≡ named inner)
IsFaultNamed d NoMemory = ⊤

-- a stop for want of memory, or by a rule that the text breaks at the path
abbrev pub IsRefusal : List ℕ → ScenarioStop → Type 0
IsRefusal bytes (Broken stop) = IsTextBroken bytes stop.rule stop.path
IsRefusal bytes NoMemory = ⊤

-- each value of a list is sound
abbrev pub AllSound : Wanted → List Data → Type 0
AllSound w ds = (i : ℕ) (x : Data) → slice_get ds i ≡ Some x → IsSound w x
