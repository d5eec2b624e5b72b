-- What the actions of a sound program are. Programs are this profile's own.
use Rattle.std.specs.Prelude.{ℕ, Bool, true, false, not, cond, codes, ◌&&◌, ◌||◌, ◌==◌, nat_lt, nat_le, List, [], ◌∷◌, length, Option, Some, None, slice_get, option_map, option_and_then, option_to_list, is_some}
use Rattle.std.specs.Str.{bytes_eq}
use Rattle.fp_base.specs.Same.{same_bool}
use Rattle.fp_tables.specs.Lists.{some_and}
use Rattle.fp_base.specs.Names.{is_name}
use Rattle.fp_tables.specs.Positions.{port_of, component_of}
use Rattle.fp_tables.specs.Specials.{is_special}
use Rattle.fp_tables.specs.Arguments.{Scope, nothing_bound, with_bound, formals_bound, arguments_suit}
use Rattle.fp_tables.specs.Acts.{is_placed, component_passes, command_of, definition_at, has_role, machine_at, takes, takes_one, suit_in_turn, result_at}
use Rattle.fp_tables.specs.Lookup.{Described, wire_from}
use Rattle.fp_tables.specs.declared.kind.Kind.{Kind}
use Rattle.fp_tables.specs.declared.kind.PortDef.{PortDef}
use Rattle.fp_tables.specs.declared.component.Full.TheVariants.{Hook}
use Rattle.fp_tables.specs.declared.component.Way.{Way}
use Rattle.fp_tables.specs.declared.component.Way.TheVariants.{Later}
use Rattle.fp_tables.specs.declared.component.CommandPart.{CommandPart}
use Rattle.fp_tables.specs.declared.component.CommandPart.TheVariants.{Plain}
use Rattle.fp_tables.specs.declared.component.Special.TheVariants.{CmdRecv, CmdResp}
use Rattle.fp_tables.specs.declared.component.Role.{Role}
use Rattle.fp_tables.specs.declared.component.Role.TheVariants as role
use Rattle.fp_tables.specs.declared.component.Queueing.{Queueing}
use Rattle.fp_tables.specs.declared.component.Queueing.TheVariants.{Queued}
use Rattle.fp_tables.specs.declared.component.Port.{Port}
use Rattle.fp_tables.specs.declared.component.Command.{Command}
use Rattle.fp_tables.specs.declared.component.Event.{Event}
use Rattle.fp_tables.specs.declared.component.Channel.{Channel}
use Rattle.fp_tables.specs.declared.component.Running.{Running}
use Rattle.fp_tables.specs.declared.component.Component.{Component}
use Rattle.fp_tables.specs.declared.machine.Named.{Named}
use Rattle.fp_tables.specs.declared.machine.Machine.{Machine}
use Rattle.fp_tables.specs.declared.topology.End.{End}
use Rattle.fp_tables.specs.declared.program.Verb.{Verb}
use Rattle.fp_tables.specs.declared.program.Verb.TheVariants as verb
use Rattle.fp_tables.specs.declared.program.Act.{Act}
use Rattle.fp_tables.specs.declared.program.Spot.{Spot}
use Rattle.fp_tables.specs.declared.program.Spot.TheVariants as spot
use Rattle.fp_tables.specs.declared.program.Handler.{Handler}
use Rattle.fp_tables.specs.declared.program.Answers.{Answers}

abbrev pub is_general_input : Role → Bool
is_general_input (role.Input way) = true
is_general_input _ = false

abbrev pub is_general_output : Role → Bool
is_general_output role.Output = true
is_general_output _ = false

abbrev pub is_internal : Role → Bool
is_internal (role.Internal way) = true
is_internal _ = false

abbrev pub is_queued : Queueing → Bool
is_queued Queued = true
is_queued _ = false

-- a command's handler, or its hook handler
abbrev pub is_command : Spot → Bool
is_command (spot.Command n) = true
is_command (spot.HookCommand n) = true
is_command _ = false

-- asynchronous, and under `hook` where the queue is full
abbrev pub is_hooked : Way → Bool
is_hooked (Later priority Hook) = true
is_hooked _ = false

-- the way of what arrives at a port
abbrev pub way_in : Role → Option Way
way_in (role.Input way) = Some way
way_in (role.Internal way) = Some way
way_in _ = None

-- of a command that is written in its component: an implied one isn't put into the queue
abbrev pub way_written : Way → CommandPart → Option Way
way_written way Plain = Some way
way_written way _ = None

abbrev pub is_return : Act → Bool
is_return a = of_verb a.verb
  where
    of_verb : Verb → Bool
    of_verb verb.Return = true
    of_verb _ = false

abbrev pub has_identifier : Act → Bool
has_identifier a = some_and is_name a.bind

-- a return stands last where a result is wanted, and nowhere else
abbrev pub return_stands : Bool → List Act → Bool
return_stands wanted [] = not wanted
return_stands wanted (a ∷ []) = same_bool (is_return a) wanted
return_stands wanted (a ∷ b ∷ rest) = not (is_return a) && return_stands wanted (b ∷ rest)

-- an action's value, if it takes one, is bound to `value`
abbrev pub value_bound : Option Kind → Scope
value_bound None = nothing_bound
value_bound (Some k) = with_bound (codes "value") k nothing_bound

module _ (t : Described) where
  -- ---- a caller's actions: calls at general inputs, and commands

  abbrev pub caller_calls : Scope → Act → Bool
  caller_calls scope a =
      some_and (λ (p : Port). is_general_input p.role && nat_lt a.subject.number p.size && takes t scope p.formals a) (port_of t.model a.subject.instance a.subject.port)

  abbrev pub caller_commands : Scope → Act → Bool
  caller_commands scope a = nat_le a.subject.number 0 && some_and (λ (c : Command). takes t scope c.formals a) (command_of t a.subject.instance a.name)

  abbrev pub caller_act_suits : Scope → Act → Bool
  caller_act_suits scope a = is_placed t a.subject.instance && of_verb a.verb
    where
      of_verb : Verb → Bool
      of_verb verb.Call = caller_calls scope a
      of_verb verb.Command = caller_commands scope a
      of_verb _ = false

  abbrev pub caller_acts_suit : List Act → Bool
  caller_acts_suit = suit_in_turn t caller_act_suits nothing_bound

  -- ---- a handler's actions

  -- the wire from there leads to a port that is for this
  abbrev pub leads_to : (Role → Bool) → End → Bool
  leads_to test e = some_and (has_role t test) (wire_from t e)

  abbrev pub is_of_commands : End → Bool
  is_of_commands e = some_and (λ (d : PortDef). bytes_eq d.name (codes "Fw.Cmd")) (definition_at t e.instance e.port)

  -- the command of the instance that the wire leads to
  abbrev pub takes_sent : Scope → Act → Bool
  takes_sent scope a = some_and (λ (e : End). some_and (λ (c : Command). takes t scope c.formals a) (command_of t e.instance a.name)) (wire_from t a.subject)

  abbrev pub sends_command : Scope → Act → Bool
  sends_command scope a =
      has_role t is_general_output a.subject && is_of_commands a.subject && leads_to (is_special CmdRecv) a.subject
      && takes_sent scope a

  abbrev pub calls : Scope → Act → Bool
  calls scope a =
      some_and (λ (p : Port). is_general_output p.role && takes t scope p.formals a) (port_of t.model a.subject.instance a.subject.port) && leads_to is_general_input a.subject

  abbrev pub emits : Scope → Act → Bool
  emits scope a = component_passes t a.subject.instance (λ c. some_and (λ (e : Event). takes t scope e.formals a) (slice_get c.events a.name))

  abbrev pub writes : Scope → Act → Bool
  writes scope a = component_passes t a.subject.instance (λ c. some_and (λ (x : Channel). takes_one t scope x.kind a) (slice_get c.channels a.name))

  abbrev pub reads : Act → Bool
  reads a = component_passes t a.subject.instance (λ c. is_some (slice_get c.params a.name)) && is_some a.bind

  -- a signal's value, or none
  abbrev pub signals : Scope → Act → Bool
  signals scope a =
      some_and (λ (m : Machine). some_and (λ (s : Named). arguments_suit t.model.types scope (option_to_list s.kind) a.with) (slice_get m.signals a.name))
      (machine_at t a.subject.instance a.subject.port)

  abbrev pub posts : Scope → Act → Bool
  posts scope a = some_and (λ (p : Port). is_internal p.role && takes t scope p.formals a) (port_of t.model a.subject.instance a.subject.port)

  abbrev pub dispatches : Act → Bool
  dispatches a = component_passes t a.subject.instance (λ c. is_queued c.queueing)

  -- in a command's handler or hook handler, at number 0 of a resp port, which is wired
  abbrev pub responds : Spot → Act → Bool
  responds place a =
      is_command place && has_role t (is_special CmdResp) a.subject && nat_le a.subject.number 0 && is_some (wire_from t a.subject) && has_identifier a

  -- what the port of a handler returns
  abbrev pub returned_at : ℕ → Spot → Option Kind
  returned_at i (spot.Port n) = result_at t i n
  returned_at i _ = None

  abbrev pub returns : Spot → Scope → Act → Bool
  returns place scope a = some_and (λ k. takes_one t scope k a) (returned_at a.subject.instance place)

  abbrev pub verb_suits : Spot → Scope → Act → Bool
  verb_suits place scope a = of_verb a.verb
    where
      of_verb : Verb → Bool
      of_verb verb.Call = calls scope a
      of_verb verb.Command = sends_command scope a
      of_verb verb.Emit = emits scope a
      of_verb verb.Write = writes scope a
      of_verb verb.Read = reads a
      of_verb verb.Signal = signals scope a
      of_verb verb.Post = posts scope a
      of_verb verb.Respond = responds place a
      of_verb verb.Dispatch = dispatches a
      of_verb verb.Return = returns place scope a

  abbrev pub act_suits : ℕ → Spot → Scope → Act → Bool
  act_suits i place scope a = (a.subject.instance == i) && verb_suits place scope a

  -- what is bound where a handler begins
  abbrev pub port_bound : ℕ → ℕ → Option Scope
  port_bound i n = option_and_then (λ (p : Port). cond (is_general_input p.role || is_internal p.role) (Some (formals_bound p.formals)) None) (port_of t.model i n)

  abbrev pub command_bound : ℕ → ℕ → Option Scope
  command_bound i n = option_map (λ (c : Command). formals_bound c.formals) (command_of t i n)

  abbrev pub action_bound : ℕ → ℕ → ℕ → Option Scope
  action_bound i running action = option_map (λ (x : Named). value_bound x.kind) (option_and_then (λ (m : Machine). slice_get m.actions action) (machine_at t i running))

  abbrev pub port_way : ℕ → ℕ → Option Way
  port_way i n = option_and_then (λ (p : Port). way_in p.role) (port_of t.model i n)

  abbrev pub command_way : ℕ → ℕ → Option Way
  command_way i n = option_and_then (λ (c : Command). way_written c.way c.part) (command_of t i n)

  abbrev pub signal_way : ℕ → ℕ → Option Way
  signal_way i running = option_map (λ (r : Running). r.way) (option_and_then (λ (c : Component). slice_get c.machines running) (component_of t.model i))

  -- a place that isn't under `hook` has no hook handler
  abbrev pub hook_bound : Option Way → Option Scope → Option Scope
  hook_bound way scope = cond (some_and is_hooked way) scope None

  -- a hook handler has the formals of its port or command; of a signal, whose value has no name, none
  abbrev pub bound_at : ℕ → Spot → Option Scope
  bound_at i (spot.Port n) = port_bound i n
  bound_at i (spot.Command n) = command_bound i n
  bound_at i (spot.Action running action) = action_bound i running action
  bound_at i (spot.HookPort n) = hook_bound (port_way i n) (port_bound i n)
  bound_at i (spot.HookCommand n) = hook_bound (command_way i n) (command_bound i n)
  bound_at i (spot.HookSignal running) = hook_bound (signal_way i running) (Some nothing_bound)

  abbrev pub handler_suits : Handler → Bool
  handler_suits h =
      is_placed t h.instance && return_stands (is_some (returned_at h.instance h.place)) h.acts
      && some_and (λ scope. suit_in_turn t (act_suits h.instance h.place) scope h.acts) (bound_at h.instance h.place)

  abbrev pub answers_suit : Answers → Bool
  answers_suit a = is_placed t a.instance && some_and (λ (m : Machine). nat_lt a.guard (length m.guards)) (machine_at t a.instance a.running)
