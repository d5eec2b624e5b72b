-- What an actor makes of an entry.
use Rattle.std.specs.Prelude.{ℕ, true, cond, List, [], ◌∷◌, ◌++◌, map, flat_map, zip, Option, Some, None, option_map, option_and_then, unwrap_or, is_some, slice_get, codes}
use Rattle.fp_tables.specs.Specials.{component, special_wire}
use Rattle.fp_base.specs.declared.value.Value.{Value}
use Rattle.fp_tables.specs.Lookup.{Described}
use Rattle.fp_tables.specs.declared.component.Special.{Special}
use Rattle.fp_tables.specs.declared.component.Special.TheVariants as special
use Rattle.fp_tables.specs.declared.component.CommandPart.{CommandPart}
use Rattle.fp_tables.specs.declared.component.CommandPart.TheVariants.{Plain, SetParam, SaveParam}
use Rattle.fp_tables.specs.declared.machine.Named.{Named}
use Rattle.fp_tables.specs.declared.program.Program.{Program}
use Rattle.fp_tables.specs.declared.program.Verb.{Verb}
use Rattle.fp_tables.specs.declared.program.Verb.TheVariants as verb
use Rattle.fp_tables.specs.declared.program.Spot.{Spot}
use Rattle.fp_tables.specs.declared.program.Spot.TheVariants as spot
use Rattle.fp_events.specs.Lookup.{result_of, names, handler, machine}
use Rattle.fp_events.specs.declared.event.Point.{Point}
use Rattle.fp_events.specs.declared.event.Point.TheVariants.{Port, Command, Post, Signal}
use Rattle.fp_events.specs.declared.event.Fate.{Fate}
use Rattle.fp_events.specs.declared.event.Fate.TheVariants.{Sent}
use Rattle.fp_events.specs.declared.event.What.{What}
use Rattle.fp_events.specs.declared.event.What.TheVariants as what
use Rattle.fp_events.specs.Actor.{Bindings, Action, act, send, advance, Doing, Opened, arrived, taken, Frame, Thread}
use Rattle.fp_events.specs.Due.{first_action}

-- the lists without their first action: its own list, even if it is through, stays in front, so that a value is bound there
abbrev pub without_first_in : Doing → List Action → List Doing → List Doing → List Doing
without_first_in d [] rest otherwise = otherwise
without_first_in d (x ∷ xs) rest otherwise = record d { actions = xs } ∷ rest

abbrev pub without_first : List Doing → List Doing
without_first [] = []
without_first (d ∷ ds) = without_first_in d d.actions ds (without_first ds)

abbrev pub bind : List ℕ → Value → List Doing → List Doing
bind name v [] = []
bind name v (d ∷ ds) = record d { bound = (name, v) ∷ d.bound } ∷ ds

abbrev pub in_frame : (List Doing → List Doing) → List Frame → List Frame
in_frame f [] = []
in_frame f (x ∷ xs) = record x { doing = f x.doing } ∷ xs

abbrev pub doing : List Frame → List Doing
doing [] = []
doing (x ∷ xs) = x.doing

-- the first action of the innermost frame is done, and these lists stand in its place
abbrev pub replaced : List Doing → List Frame → List Frame
replaced ds = in_frame (λ old. ds ++ without_first old)

abbrev pub removed : List Frame → List Frame
removed = replaced []

-- the innermost frame is closed: a returned value is bound in the one below, where the call has a name for it
abbrev pub bound_below : Opened → Option Value → List Frame → List Frame
bound_below (arrived default (Some name)) (Some v) xs = in_frame (bind name v) xs
bound_below _ _ xs = xs

abbrev pub closed : Option Value → List Frame → List Frame
closed v [] = []
closed v (x ∷ xs) = bound_below x.opened v xs

-- the name to which a call binds what is returned to it
abbrev pub as_name : Verb → Option (List ℕ) → Option (List ℕ)
as_name verb.Call name = name
as_name _ name = None

abbrev pub name_for : Option (Action × Bindings) → Option (List ℕ)
name_for (Some (act x, bound)) = as_name x.verb x.bind
name_for _ = None

abbrev pub value_in : Option (Action × Bindings) → Option Value
value_in (Some (advance running signal v, bound)) = v
value_in _ = None

abbrev pub ok_note : List ℕ
ok_note = codes "OK"

-- the place of the hook handler of a point
abbrev pub hook_spot : Point → Spot
hook_spot (Port n number) = spot.HookPort n
hook_spot (Command n) = spot.HookCommand n
hook_spot (Post n) = spot.HookPort n
hook_spot (Signal running signal) = spot.HookSignal running

module _ (t : Described) (program : Program) where
  abbrev pub acts_at : ℕ → Spot → List Action
  acts_at i place = map act (handler program i place)

  -- a handler's actions, with the formals bound
  abbrev pub handling : ℕ → Point → List Value → Doing
  handling i (Port n number) with =
      record { actions = acts_at i (spot.Port n); bound = zip (unwrap_or (option_map (λ p. names p.formals) (slice_get (component t i).ports n)) []) with }
  handling i (Command n) with =
      record { actions = acts_at i (spot.Command n); bound = zip (unwrap_or (option_map (λ c. names c.formals) (slice_get (component t i).commands n)) []) with }
  handling i (Post n) with =
      record { actions = acts_at i (spot.Port n); bound = zip (unwrap_or (option_map (λ p. names p.formals) (slice_get (component t i).ports n)) []) with }
  handling i (Signal running signal) with = record { actions = advance running signal (value_first with) ∷ []; bound = [] }
    where
      value_first : List Value → Option Value
      value_first [] = None
      value_first (v ∷ vs) = Some v

  -- a hook handler's actions, with the formals bound as in the place's own handler, for a signal none
  abbrev pub hooking : ℕ → Point → List Value → Doing
  hooking i point with = record { actions = acts_at i (hook_spot point); bound = (handling i point with).bound }

  -- what the place returns where no action does
  abbrev pub returned : ℕ → Point → Option Value
  returned i (Port n number) = result_of t i n
  returned i _ = None

  -- a frame of an arrival, over the frames whose first action it answers
  abbrev pub opened : ℕ → Doing → Option Value → List Frame → List Frame
  opened i d default xs = record { instance = i; doing = d ∷ []; opened = arrived default (name_for (first_action (doing xs))) } ∷ removed xs

  -- the sends from those of these ports that have a wire
  abbrev pub sends : ℕ → List (Special × List ℕ) → Doing
  sends i ports = record { actions = flat_map (λ (p : Special × List ℕ). cond (is_some (special_wire t i p.0)) (send p.0 p.1 ∷ []) []) ports; bound = [] }

  abbrev pub parameter_of : CommandPart → Option ℕ
  parameter_of Plain = None
  parameter_of (SetParam k) = Some k
  parameter_of (SaveParam k) = Some k

  abbrev pub parameter_name : ℕ → Point → List ℕ
  parameter_name i (Command n) =
      unwrap_or (option_map (λ p. p.name) (option_and_then (slice_get (component t i).params) (option_and_then (λ c. parameter_of c.part) (slice_get (component t i).commands n)))) []
  parameter_name i _ = []

  -- the value under the name "value", where the action takes one
  abbrev pub with_value : Option Value → Option Named → Bindings
  with_value (Some v) (Some x) = cond (is_some x.kind) ((codes "value", v) ∷ []) []
  with_value _ _ = []

  -- the lists of these actions' handlers
  abbrev pub performed : ℕ → ℕ → List ℕ → Option Value → List Doing
  performed i running actions v =
      map (λ k. record { actions = acts_at i (spot.Action running k); bound = with_value v (option_and_then (λ m. slice_get m.actions k) (machine t i running)) }) actions

  -- in place of an emission or a write that was sent, a send from the port
  abbrev pub sent_as : ℕ → Fate → Special → List ℕ → List Frame → List Frame
  sent_as i Sent s note xs = replaced (sends i ((s, note) ∷ []) ∷ []) xs
  sent_as i _ s note xs = removed xs

  abbrev pub bound_name : Option (Action × Bindings) → List ℕ
  bound_name (Some (act x, bound)) = unwrap_or x.bind []
  bound_name _ = []

  abbrev pub framed : Thread → List Frame → Thread
  framed x frames = record x { frames = frames }

  -- the actor after an entry at instance i
  unfoldable pub follows : ℕ → Thread → What → Thread
  -- enter, guard: the action is removed, and a frame opens with the handler's actions and the formals bound
  follows i x (what.Enter r) = framed x (opened i (handling i r.point r.with) (returned i r.point) x.frames)
  follows i x (what.Guard r) = framed x (opened i (handling i r.point r.with) (returned i r.point) x.frames)
  -- set: a frame opens with a send of OK from the response port; save: with a send from the param set port before it. A send whose port has no
  -- wire is left out
  follows i x (what.Set r) = framed x (opened i (sends i ((special.CmdResp, ok_note) ∷ [])) None x.frames)
  follows i x (what.Save r v) = framed x (opened i (sends i ((special.PrmSet, parameter_name i r.point) ∷ (special.CmdResp, ok_note) ∷ [])) None x.frames)
  -- hook: the action is removed, and a frame opens with the hook handler's actions, which returns nothing
  follows i x (what.Hooked r) = framed x (opened i (hooking i r.point r.with) None x.frames)
  -- put, drop, empty: the action is removed
  follows i x (what.Put number r) = framed x (removed x.frames)
  follows i x (what.Dropped r) = framed x (removed x.frames)
  -- assert: the actor halts
  follows i x (what.Asserted r) = record x { halted = true }
  -- leave, done: the frame closes, and a returned value is bound in the frame below where the call has a name for it
  follows i x (what.Leave v) = framed x (closed v x.frames)
  follows i x what.Done = framed x (closed None x.frames)
  -- take: a frame opens with the handler's actions, or with an advance for a signal, and a dispatch action is removed
  follows i x (what.Take number point with) = framed x (record { instance = i; doing = handling i point with ∷ []; opened = taken } ∷ removed x.frames)
  follows i x what.Empty = framed x (removed x.frames)
  -- emit, write: where sent from a port that has a wire, a send stands in place of the action, else it is removed
  follows i x (what.Emit event fate text) =
      framed x (sent_as i fate special.Event (unwrap_or (option_map (λ e. e.name) (slice_get (component t i).events event)) []) x.frames)
  follows i x (what.Write channel fate v) =
      framed x (sent_as i fate special.Tlm (unwrap_or (option_map (λ c. c.name) (slice_get (component t i).channels channel)) []) x.frames)
  -- read: the action is removed, and the value bound
  follows i x (what.Read param v) = framed x (in_frame (λ old. bind (bound_name (first_action old)) v (without_first old)) x.frames)
  -- start: the lists of its actions' handlers stand, in order, before the advance; move: in its place
  follows i x (what.Start running actions leaf) = framed x (in_frame (λ old. performed i running actions (value_in (first_action old)) ++ old) x.frames)
  follows i x (what.Move running signal actions leaf) = framed x (in_frame (λ old. performed i running actions (value_in (first_action old)) ++ without_first old) x.frames)
