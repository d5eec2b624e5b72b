-- What stops the check of a part of a scenario, with the path from the part on.
use Rattle.std.specs.Prelude.{◌≡◌, ◌⊎◌, ℕ, suc, true, decimal, length, map, List, [], ◌∷◌, ◌++◌, replicate, Option, Some, None, slice_get, ⊤}
use Rattle.fp_base.specs.declared.rule.Rule.{Rule}
use Rattle.fp_base.specs.declared.rule.Rule.TheVariants.{UnknownName, BadReturn}
use Rattle.fp_tables.specs.Lookup.{Described}
use Rattle.fp_tables.specs.Positions.{component_of}
use Rattle.fp_tables.specs.Arguments.{Scope, nothing_bound}
use Rattle.fp_tables.specs.Programs.{bound_at}
use Rattle.fp_tables.specs.declared.component.Component.{Component}
use Rattle.fp_tables.specs.declared.program.Spot.{Spot}
use Rattle.fp_tables.specs.declared.program.Handler.{Handler}
use Rattle.fp_scenario.specs.Broken.{below}
use Rattle.fp_scenario.specs.Checked.{Stops}
use Rattle.fp_scenario.specs.declared.scenario.Scenario.{Scenario}
use Rattle.fp_scenario.specs.declared.scenario.CallerText.{CallerText}
use Rattle.fp_scenario.specs.declared.scenario.HandlerText.{HandlerText}
use Rattle.fp_scenario.specs.declared.scenario.GuardText.{GuardText}
use Rattle.fp_scenario.specs.declared.scenario.ScenarioStop.{ScenarioStop}
use Rattle.fp_scenario.specs.declared.scenario.ScenarioStop.TheVariants.{Broken, NoMemory}
use Rattle.fp_scenario_actions.specs.Spots.{spot_in}
use Rattle.fp_scenario_actions.specs.Listing as listing
use Rattle.fp_scenario_actions.specs.Calling as calling
use Rattle.fp_scenario_actions.specs.declared.listing.ListHalt.{ListHalt}
use Rattle.fp_scenario_actions.specs.declared.listing.ListHalt.TheVariants as halt
use Rattle.fp_scenario_check.specs.Planned.{IsPlaceUnknown, IsUnknownGuard, component_named, stands_for, action_path, list_path}

-- the position of the text of each handler, by how many each text gives, the first text having the number
abbrev pub texts_counted : ℕ → List ℕ → List ℕ
texts_counted n [] = []
texts_counted n (k ∷ ks) = replicate k n ++ texts_counted (suc n) ks

-- want of memory, or a rule and a path of which this holds
abbrev pub IsStop : (Rule → List ℕ → Type 0) → ScenarioStop → Type 0
IsStop P (Broken stop) = P stop.rule stop.path
IsStop P NoMemory = ⊤

-- want of memory, or the rule that an action of the list breaks, at the action
abbrev pub StopsInList : ListHalt → ScenarioStop → Type 0
StopsInList (halt.Broken rule at) stop = Stops rule (action_path at) stop
StopsInList halt.NoMemory stop = stop ≡ NoMemory

-- an item of the list has the fault, further down its path
abbrev pub InItem : {A : Type 0} → (A → Rule → List ℕ → Type 0) → List A → Rule → List ℕ → Type 0
InItem {A = A} P xs rule path = (n : ℕ) × (x : A) × (rest : List ℕ) × (slice_get xs n ≡ Some x) × (path ≡ below (decimal n) rest) × P x rule rest

module _ (t : Described) where
  abbrev pub CallerFault : CallerText → Rule → List ℕ → Type 0
  CallerFault text rule path = (k : ℕ) × (path ≡ action_path k) × calling.BreaksAt t rule k nothing_bound text.do_

  abbrev pub GuardFault : GuardText → Rule → List ℕ → Type 0
  GuardFault text rule path = (rule ≡ UnknownName) × (path ≡ []) × IsUnknownGuard t text

  -- a handler's list, at an instance with this component, at a place with these bindings
  pub data ListFault (text : HandlerText) (i : ℕ) (c : Component) (place : Spot) (begins : Scope) : Rule → List ℕ → Type 0 where
    in_action : (rule : Rule) (k : ℕ) → listing.BreaksAt t i c place rule k begins text.do_ → ListFault text i c place begins rule (action_path k)
    return_missing : listing.lacks_return t i c place text.do_ ≡ true → ListFault text i c place begins BadReturn list_path

  -- a handler at an instance
  pub data HandlerFault (text : HandlerText) (i : ℕ) : Rule → List ℕ → Type 0 where
    no_place : IsPlaceUnknown t text i → HandlerFault text i UnknownName []
    in_list : (c : Component) (place : Spot) (begins : Scope) (rule : Rule) (path : List ℕ) → component_of t.model i ≡ Some c → spot_in t c text.on_ ≡ Some place → bound_at t i place ≡ Some begins
        → ListFault text i c place begins rule path → HandlerFault text i rule path

  -- a handler at one of these instances
  abbrev pub FaultAtOne : HandlerText → List ℕ → Rule → List ℕ → Type 0
  FaultAtOne text instances rule path = (n : ℕ) × (i : ℕ) × (slice_get instances n ≡ Some i) × HandlerFault text i rule path

  -- nothing has the name, or the place isn't one of the component's that has it
  abbrev pub NamesNothing : HandlerText → Type 0
  NamesNothing text = (component_named t text.of ≡ None) ⊎ ((c : Component) × (component_named t text.of ≡ Some c) × (spot_in t c text.on_ ≡ None))

  -- a handler that stands for no instance and means nothing
  abbrev pub IdleFault : HandlerText → List ℕ → Type 0
  IdleFault text instances = (instances ≡ []) × NamesNothing text

  -- a handler
  abbrev pub TextFault : Scenario → HandlerText → Rule → List ℕ → Type 0
  TextFault scenario text rule path =
      ((rule ≡ UnknownName) × (path ≡ []) × IdleFault text (stands_for t scenario text)) ⊎ FaultAtOne text (stands_for t scenario text) rule path

  -- how many instances each handler stands for
  abbrev pub counts : Scenario → List HandlerText → List ℕ
  counts scenario texts = map (λ (h : HandlerText). length (stands_for t scenario h)) texts
