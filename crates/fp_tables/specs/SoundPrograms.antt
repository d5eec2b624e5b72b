-- How large a sound program may be, and that nothing in it is given twice.
use Rattle.std.specs.Prelude.{◌≡◌, ℕ, Bool, true, false, cond, ◌+◌, ◌*◌, ◌&&◌, ◌==◌, nat_le, List, [], ◌∷◌, ◌++◌, length, map, filter, flat_map, ℤ, sum_by, Option, Some, slice_get, option_and_then}
use Rattle.std.specs.List.{list_all, list_any}
use Rattle.fp_base.specs.Same.{same_int}
use Rattle.fp_tables.specs.Lists.{apart}
use Rattle.fp_base.specs.Names.{is_name}
use Rattle.fp_tables.specs.Names.{texts_differ}
use Rattle.fp_tables.specs.Components.{is_from_1_to}
use Rattle.fp_tables.specs.Lookup.{Described, placed}
use Rattle.fp_tables.specs.Positions.{component_of}
use Rattle.fp_tables.specs.declared.component.Way.{Way}
use Rattle.fp_tables.specs.declared.component.Way.TheVariants.{Later}
use Rattle.fp_tables.specs.declared.component.Role.{Role}
use Rattle.fp_tables.specs.declared.component.Role.TheVariants as role
use Rattle.fp_tables.specs.declared.component.Queueing.{Queueing}
use Rattle.fp_tables.specs.declared.component.Queueing.TheVariants.{Active}
use Rattle.fp_tables.specs.declared.component.Port.{Port}
use Rattle.fp_tables.specs.declared.component.Command.{Command}
use Rattle.fp_tables.specs.declared.component.Running.{Running}
use Rattle.fp_tables.specs.declared.component.Component.{Component}
use Rattle.fp_tables.specs.declared.topology.Instance.{Instance}
use Rattle.fp_tables.specs.declared.program.Spot.{Spot}
use Rattle.fp_tables.specs.declared.program.Spot.TheVariants as spot
use Rattle.fp_tables.specs.declared.program.Caller.{Caller}
use Rattle.fp_tables.specs.declared.program.Handler.{Handler}
use Rattle.fp_tables.specs.declared.program.Answers.{Answers}
use Rattle.fp_tables.specs.declared.program.Program.{Program}
use Rattle.fp_tables.specs.Acts.{component_passes}
use Rattle.fp_tables.specs.Programs.{caller_acts_suit, handler_suits, answers_suit}

abbrev pub priority_of : Way → List ℤ
priority_of (Later priority full) = priority ∷ []
priority_of _ = []

abbrev pub port_priority : Role → List ℤ
port_priority (role.Input way) = priority_of way
port_priority (role.Internal way) = priority_of way
port_priority _ = []

-- the priorities of the places that wait in a component's queue
abbrev pub priorities : Component → List ℤ
priorities c =
    flat_map (λ (p : Port). port_priority p.role) c.ports ++ flat_map (λ (x : Command). priority_of x.way) c.commands
    ++ flat_map (λ (r : Running). priority_of r.way) c.machines

-- how many different ones there are
abbrev pub count_different : List ℤ → ℕ
count_different [] = 0
count_different (p ∷ ps) = cond (list_any (same_int p) ps) 0 1 + count_different ps

module _ (t : Described) where
  abbrev pub is_active_at : ℕ → Bool
  is_active_at i = component_passes t i (λ c. of_queueing c.queueing)
    where
      of_queueing : Queueing → Bool
      of_queueing Active = true
      of_queueing _ = false

  abbrev pub queue_places : ℕ → ℕ
  queue_places i = places (option_and_then (λ (x : Instance). x.queue) (slice_get t.model.instances i)) (component_of t.model i)
    where
      places : Option ℕ → Option Component → ℕ
      places (Some size) (Some c) = size * count_different (priorities c)
      places _ _ = 0

abbrev pub same_spot : Spot → Spot → Bool
same_spot (spot.Port m) (spot.Port n) = m == n
same_spot (spot.Command m) (spot.Command n) = m == n
same_spot (spot.Action r a) (spot.Action q b) = (r == q) && (a == b)
same_spot (spot.HookPort m) (spot.HookPort n) = m == n
same_spot (spot.HookCommand m) (spot.HookCommand n) = m == n
same_spot (spot.HookSignal m) (spot.HookSignal n) = m == n
same_spot (spot.Port m) (spot.Command n) = false
same_spot (spot.Port m) (spot.Action q b) = false
same_spot (spot.Port m) (spot.HookPort n) = false
same_spot (spot.Port m) (spot.HookCommand n) = false
same_spot (spot.Port m) (spot.HookSignal n) = false
same_spot (spot.Command m) (spot.Port n) = false
same_spot (spot.Command m) (spot.Action q b) = false
same_spot (spot.Command m) (spot.HookPort n) = false
same_spot (spot.Command m) (spot.HookCommand n) = false
same_spot (spot.Command m) (spot.HookSignal n) = false
same_spot (spot.Action r a) (spot.Port n) = false
same_spot (spot.Action r a) (spot.Command n) = false
same_spot (spot.Action r a) (spot.HookPort n) = false
same_spot (spot.Action r a) (spot.HookCommand n) = false
same_spot (spot.Action r a) (spot.HookSignal n) = false
same_spot (spot.HookPort m) (spot.Port n) = false
same_spot (spot.HookPort m) (spot.Command n) = false
same_spot (spot.HookPort m) (spot.Action q b) = false
same_spot (spot.HookPort m) (spot.HookCommand n) = false
same_spot (spot.HookPort m) (spot.HookSignal n) = false
same_spot (spot.HookCommand m) (spot.Port n) = false
same_spot (spot.HookCommand m) (spot.Command n) = false
same_spot (spot.HookCommand m) (spot.Action q b) = false
same_spot (spot.HookCommand m) (spot.HookPort n) = false
same_spot (spot.HookCommand m) (spot.HookSignal n) = false
same_spot (spot.HookSignal m) (spot.Port n) = false
same_spot (spot.HookSignal m) (spot.Command n) = false
same_spot (spot.HookSignal m) (spot.Action q b) = false
same_spot (spot.HookSignal m) (spot.HookPort n) = false
same_spot (spot.HookSignal m) (spot.HookCommand n) = false

abbrev pub same_place : Handler → Handler → Bool
same_place h g = (h.instance == g.instance) && same_spot h.place g.place

abbrev pub same_guard : Answers → Answers → Bool
same_guard a b = (a.instance == b.instance) && (a.running == b.running) && (a.guard == b.guard)

abbrev pub is_short_list : {A : Type 0} → List A → Bool
is_short_list xs = nat_le (length xs) 1000

pub record IsSoundProgram (t : Described) (p : Program) : Type 0 where
  -- what the actions, handlers and answers name, their arguments and their wires
  pub callers_suit : list_all (λ (c : Caller). caller_acts_suit t c.acts) p.callers ≡ true
  pub handlers_suit : list_all (handler_suits t) p.handlers ≡ true
  pub answers_suit : list_all (answers_suit t) p.answers ≡ true
  -- nothing is given twice
  pub handlers_differ : apart same_place p.handlers ≡ true
  pub answers_differ : apart same_guard p.answers ≡ true
  pub callers_differ : texts_differ (map (λ (c : Caller). c.name) p.callers) ≡ true
  -- names
  pub callers_have_names : list_all (λ (c : Caller). is_name c.name) p.callers ≡ true
  -- limits
  pub steps_are_in_range : is_from_1_to 20000 p.steps ≡ true
  pub callers_are_few : nat_le (length p.callers) 32 ≡ true
  pub actions_are_few : (list_all (λ (c : Caller). is_short_list c.acts) p.callers && list_all (λ (h : Handler). is_short_list h.acts) p.handlers) ≡ true
  pub answers_are_few : list_all (λ (a : Answers). is_from_1_to 1024 (length a.given)) p.answers ≡ true
  pub instances_are_few : (nat_le (length (placed t)) 256 && nat_le (length (filter (is_active_at t) (placed t))) 64) ≡ true
  pub queues_are_small : nat_le (sum_by (queue_places t) (placed t)) 1000000 ≡ true
