-- The program that a scenario stands for, and the rules that it breaks with the paths of what breaks them. Scenarios are this profile's own.
use Rattle.std.specs.Prelude.{◌≡◌, ◌⊎◌, ◌<◌, ℕ, Bool, true, false, not, codes, ◌==◌, ◌&&◌, nat_le, find, List, [], ◌∷◌, length, map, filter, flat_map, decimal, Option, Some, None, slice_get, option_and_then, sum_by, ⊤}
use Rattle.std.specs.List.{list_any}
use Rattle.std.specs.Str.{bytes_eq}
use Rattle.fp_base.specs.declared.rule.Rule.{Rule}
use Rattle.fp_base.specs.declared.rule.Rule.TheVariants.{PastSize, UnknownName, ScenarioRepeated, BadReturn}
use Rattle.fp_tables.specs.Lists.{some_and}
use Rattle.fp_tables.specs.Lookup.{Described, placed}
use Rattle.fp_tables.specs.Positions.{component_of}
use Rattle.fp_tables.specs.Arguments.{Scope, nothing_bound}
use Rattle.fp_tables.specs.Acts.{machine_at}
use Rattle.fp_tables.specs.Programs.{bound_at}
use Rattle.fp_tables.specs.SoundPrograms.{is_active_at, queue_places}
use Rattle.fp_tables.specs.declared.component.Component.{Component}
use Rattle.fp_tables.specs.declared.machine.Machine.{Machine}
use Rattle.fp_tables.specs.declared.program.Spot.{Spot}
use Rattle.fp_tables.specs.declared.program.Caller.{Caller}
use Rattle.fp_tables.specs.declared.program.Handler.{Handler}
use Rattle.fp_tables.specs.declared.program.Answers.{Answers}
use Rattle.fp_tables.specs.declared.program.Program.{Program}
use Rattle.fp_scenario.specs.Broken.{below}
use Rattle.fp_scenario.specs.declared.scenario.Scenario.{Scenario}
use Rattle.fp_scenario.specs.declared.scenario.CallerText.{CallerText}
use Rattle.fp_scenario.specs.declared.scenario.HandlerText.{HandlerText}
use Rattle.fp_scenario.specs.declared.scenario.GuardText.{GuardText}
use Rattle.fp_scenario_actions.specs.Named.{placed_named, running_named, name_of}
use Rattle.fp_scenario_actions.specs.Spots.{spot_in}
use Rattle.fp_scenario_actions.specs.Listing as listing
use Rattle.fp_scenario_actions.specs.Calling as calling

-- two lists are as long as each other, and it holds of each item and the one beside it
abbrev pub Pairwise : {A B : Type 0} → (A → B → Type 0) → List A → List B → Type 0
Pairwise P [] [] = ⊤
Pairwise P (a ∷ as_) (b ∷ bs) = P a b × Pairwise P as_ bs
Pairwise P _ _ = ⊥

-- ---- paths

abbrev pub at_item : List ℕ → ℕ → List ℕ → List ℕ
at_item key n rest = below key (below (decimal n) rest)

abbrev pub caller_path : ℕ → List ℕ → List ℕ
caller_path = at_item (codes "callers")

abbrev pub handler_path : ℕ → List ℕ → List ℕ
handler_path = at_item (codes "handlers")

abbrev pub guard_path : ℕ → List ℕ
guard_path n = at_item (codes "guards") n []

abbrev pub action_path : ℕ → List ℕ
action_path = λ n. at_item (codes "do") n []

abbrev pub list_path : List ℕ
list_path = below (codes "do") []

-- ---- what is given twice

abbrev pub same_caller : CallerText → CallerText → Bool
same_caller x y = bytes_eq x.name y.name

abbrev pub same_handler : HandlerText → HandlerText → Bool
same_handler g h = bytes_eq g.of h.of && bytes_eq g.on_ h.on_

abbrev pub same_guard : GuardText → GuardText → Bool
same_guard g h = bytes_eq g.of h.of && bytes_eq g.machine h.machine && bytes_eq g.guard h.guard

-- one with the same names stands at an earlier position
abbrev pub IsRepeated : {A : Type 0} → (A → A → Bool) → List A → ℕ → Type 0
IsRepeated same xs n = (m : ℕ) × (m < n) × ((some_and (λ x. some_and (λ y. same x y) (slice_get xs n)) (slice_get xs m)) ≡ true)

module _ (t : Described) where
  -- ---- parts of the program

  pub record PlansHandler (h : HandlerText × ℕ) (x : Handler) : Type 0 where
    pub instance : x.instance ≡ h.1
    pub component : Component
    pub has : component_of t.model h.1 ≡ Some component
    pub place : spot_in t component h.0.on_ ≡ Some x.place
    pub begins : Scope
    pub formals : bound_at t h.1 x.place ≡ Some begins
    pub acts : listing.ActsPlan t h.1 component x.place begins h.0.do_ x.acts
    -- and it returns what is wanted
    pub returned : listing.lacks_return t h.1 component x.place h.0.do_ ≡ false

  pub record PlansCaller (k : CallerText) (x : Caller) : Type 0 where
    pub name : x.name ≡ k.name
    pub acts : calling.ActsPlan t nothing_bound k.do_ x.acts

  -- a guard of a machine instance of an instance of the topology
  abbrev pub running_at : GuardText → ℕ → Option ℕ
  running_at g i = option_and_then (λ (c : Component). running_named c.machines g.machine) (component_of t.model i)

  abbrev pub guard_at : GuardText → ℕ → ℕ → Option ℕ
  guard_at g i r = option_and_then (λ (m : Machine). name_of m.guards g.guard) (machine_at t i r)

  pub record PlansAnswers (g : GuardText) (x : Answers) : Type 0 where
    pub instance : placed_named t g.of ≡ Some x.instance
    pub running : running_at g x.instance ≡ Some x.running
    pub guard : guard_at g x.instance x.running ≡ Some x.guard
    pub given : x.given ≡ g.answers

  -- ---- what isn't known, and what is too large

  abbrev pub is_of : List ℕ → ℕ → Bool
  is_of name i = some_and (λ (c : Component). bytes_eq c.name name) (component_of t.model i)

  -- the component of the name
  abbrev pub component_named : List ℕ → Option Component
  component_named name = find (λ (c : Component). bytes_eq c.name name) t.model.components

  -- a place of `on` isn't known at the component
  abbrev pub IsPlaceUnknown : HandlerText → ℕ → Type 0
  IsPlaceUnknown h i = option_and_then (λ (c : Component). spot_in t c h.on_) (component_of t.model i) ≡ None

  abbrev pub IsUnknownGuard : GuardText → Type 0
  IsUnknownGuard g = option_and_then (λ i. option_and_then (guard_at g i) (running_at g i)) (placed_named t g.of) ≡ None

  -- more than 256 instances or 64 active ones, or queues whose sizes times their priorities are more than 1,000,000 in all
  abbrev pub IsTooLarge : Type 0
  IsTooLarge = ((nat_le (length (placed t)) 256 && nat_le (length (filter (is_active_at t) (placed t))) 64) ≡ false) ⊎ (nat_le (sum_by (queue_places t) (placed t)) 1000000 ≡ false)

  module _ (scenario : Scenario) where
    -- ---- the instances that a handler stands for

    -- the instance has a handler of its own for the place
    abbrev pub has_own : List ℕ → ℕ → Bool
    has_own on i = list_any (λ (g : HandlerText). bytes_eq g.on_ on && some_and (λ j. j == i) (placed_named t g.of)) scenario.handlers

    -- the instance of the topology that has the name, or else the component's instances in it without a handler of their own for the place
    abbrev pub of_instance : HandlerText → Option ℕ → List ℕ
    of_instance h (Some i) = i ∷ []
    of_instance h None = filter (λ i. is_of h.of i && not (has_own h.on_ i)) (placed t)

    abbrev pub stands_for : HandlerText → List ℕ
    stands_for h = of_instance h (placed_named t h.of)

    -- each handler with each instance that it stands for
    abbrev pub at_each : HandlerText → List (HandlerText × ℕ)
    at_each h = map (λ i. (h, i)) (stands_for h)

    abbrev pub pairs : List (HandlerText × ℕ)
    pairs = flat_map at_each scenario.handlers

    -- ---- the program

    pub record Planned (program : Program) : Type 0 where
      pub steps : program.steps ≡ scenario.steps
      pub callers : Pairwise PlansCaller scenario.callers program.callers
      pub handlers : Pairwise PlansHandler pairs program.handlers
      pub answers : Pairwise PlansAnswers scenario.guards program.answers

    -- ---- rules

    -- neither an instance of the topology nor a component, or a place that isn't known; where a component's handler stands for no instance, its
    -- place is read at the component itself
    pub data IsUnknownHandler (h : HandlerText) : Type 0 where
      nothing_named : placed_named t h.of ≡ None → component_named h.of ≡ None → IsUnknownHandler h
      no_place : (i n : ℕ) → slice_get (stands_for h) n ≡ Some i → IsPlaceUnknown h i → IsUnknownHandler h
      no_place_of_component : (c : Component) → stands_for h ≡ [] → component_named h.of ≡ Some c → spot_in t c h.on_ ≡ None → IsUnknownHandler h

    -- a handler at one of its instances, with what is bound where it begins
    pub record Stands (n : ℕ) (h : HandlerText) (i : ℕ) (c : Component) (place : Spot) (begins : Scope) : Type 0 where
      pub handler : slice_get scenario.handlers n ≡ Some h
      pub one : ℕ
      pub of_these : slice_get (stands_for h) one ≡ Some i
      pub component : component_of t.model i ≡ Some c
      pub at_place : spot_in t c h.on_ ≡ Some place
      pub formals : bound_at t i place ≡ Some begins

    -- the rules but those on cycles, each with the path of what breaks it
    pub data Breaks : Rule → List ℕ → Type 0 where
      too_large : IsTooLarge → Breaks PastSize (codes "/")
      caller_repeated : (n : ℕ) → IsRepeated same_caller scenario.callers n → Breaks ScenarioRepeated (caller_path n [])
      handler_repeated : (n : ℕ) → IsRepeated same_handler scenario.handlers n → Breaks ScenarioRepeated (handler_path n [])
      guard_repeated : (n : ℕ) → IsRepeated same_guard scenario.guards n → Breaks ScenarioRepeated (guard_path n)
      handler_unknown : (n : ℕ) (h : HandlerText) → slice_get scenario.handlers n ≡ Some h → IsUnknownHandler h → Breaks UnknownName (handler_path n [])
      guard_unknown : (n : ℕ) (g : GuardText) → slice_get scenario.guards n ≡ Some g → IsUnknownGuard g → Breaks UnknownName (guard_path n)
      in_caller : (rule : Rule) (n k : ℕ) (x : CallerText) → slice_get scenario.callers n ≡ Some x → calling.BreaksAt t rule k nothing_bound x.do_ → Breaks rule (caller_path n (action_path k))
      in_handler : (rule : Rule) (n k i : ℕ) (h : HandlerText) (c : Component) (place : Spot) (begins : Scope) → Stands n h i c place begins → listing.BreaksAt t i c place rule k begins h.do_ → Breaks rule (handler_path n (action_path k))
      return_missing : (n i : ℕ) (h : HandlerText) (c : Component) (place : Spot) (begins : Scope) → Stands n h i c place begins → listing.lacks_return t i c place h.do_ ≡ true → Breaks BadReturn (handler_path n list_path)

    -- no rule is broken but perhaps one on cycles
    abbrev pub IsWhole : Type 0
    IsWhole = (rule : Rule) (path : List ℕ) → Breaks rule path → ⊥
