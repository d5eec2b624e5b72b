-- What an action of a handler names, takes and binds, and the rules that it keeps.
use Rattle.std.specs.Prelude.{◌≡◌, ℕ, Bool, true, false, not, cond, codes, ◌&&◌, ◌||◌, ◌^◌, nat_lt, List, [], ◌∷◌, map, Option, Some, None, slice_get, option_map, option_and_then, option_to_list, is_some, ⊤}
use Rattle.std.specs.List.{list_all}
use Rattle.std.specs.Str.{bytes_eq}
use Rattle.serde_json.specs.View.{view}
use Rattle.serde_json.specs.declared.value.Value.{Value as Json}
use Rattle.fp_base.specs.declared.rule.Rule.{Rule}
use Rattle.fp_base.specs.declared.rule.Rule.TheVariants.{UnknownName, BadArgument, NoWire, BadReturn, BadDispatch, ActionNotAllowed}
use Rattle.fp_tables.specs.Lists.{if_some, some_and}
use Rattle.fp_tables.specs.Lookup.{Described, wire_from}
use Rattle.fp_tables.specs.Positions.{component_of}
use Rattle.fp_tables.specs.Arguments.{Scope, kinds_of}
use Rattle.fp_tables.specs.Acts.{has_role, result_at, bound_to}
use Rattle.fp_tables.specs.Programs.{is_general_output, is_internal, is_command, is_queued, returned_at}
use Rattle.fp_tables.specs.Specials.{is_special, special_port}
use Rattle.fp_tables.specs.declared.kind.Kind.{Kind}
use Rattle.fp_tables.specs.declared.kind.PortDef.{PortDef}
use Rattle.fp_tables.specs.declared.kind.TypeDef.{TypeDef}
use Rattle.fp_tables.specs.declared.component.Special.TheVariants.{CmdRecv, CmdResp}
use Rattle.fp_tables.specs.declared.component.Port.{Port}
use Rattle.fp_tables.specs.declared.component.Command.{Command}
use Rattle.fp_tables.specs.declared.component.Event.{Event}
use Rattle.fp_tables.specs.declared.component.Channel.{Channel}
use Rattle.fp_tables.specs.declared.component.Param.{Param}
use Rattle.fp_tables.specs.declared.component.Running.{Running}
use Rattle.fp_tables.specs.declared.component.Component.{Component}
use Rattle.fp_tables.specs.declared.machine.Named.{Named}
use Rattle.fp_tables.specs.declared.machine.Machine.{Machine}
use Rattle.fp_tables.specs.declared.topology.End.{End}
use Rattle.fp_tables.specs.declared.program.Verb.{Verb}
use Rattle.fp_tables.specs.declared.program.Verb.TheVariants as verb
use Rattle.fp_tables.specs.declared.program.Act.{Act}
use Rattle.fp_tables.specs.declared.program.Spot.{Spot}
use Rattle.fp_scenario.specs.declared.scenario.ActText.{ActText}
use Rattle.fp_scenario.specs.declared.first_key.FirstKey.{FirstKey}
use Rattle.fp_scenario.specs.declared.first_key.FirstKey.TheVariants as key
use Rattle.fp_scenario_actions.specs.Arguments.{AreArguments, is_bound}
use Rattle.fp_scenario_actions.specs.Named.{port_where, command_named, event_named, channel_named, param_named, running_named, name_of}

abbrev pub verb_of : FirstKey → Verb
verb_of key.Call = verb.Call
verb_of key.Command = verb.Command
verb_of key.Emit = verb.Emit
verb_of key.Write = verb.Write
verb_of key.Read = verb.Read
verb_of key.Signal = verb.Signal
verb_of key.Post = verb.Post
verb_of key.Respond = verb.Respond
verb_of key.Dispatch = verb.Dispatch
verb_of key.Return = verb.Return

abbrev pub end_at : ℕ → ℕ → ℕ → End
end_at i p n = record { instance = i; port = p; number = n }

-- the answer of a call or read is bound to the name at `as`; a respond's identifier stands in its place
abbrev pub binding : FirstKey → ActText → Option (List ℕ)
binding key.Call a = a.as_
binding key.Read a = a.as_
binding key.Respond a = Some a.first
binding _ a = None

abbrev pub small : ℕ → Option ℕ
small n = cond (nat_lt n (2 ^ 32)) (Some n) None

-- every name at `$` is bound
abbrev pub names_are_bound : Scope → ActText → Bool
names_are_bound scope a = list_all (λ (x : Json). is_bound scope (view x)) a.with

-- which rule unsuited arguments break
abbrev pub IsUnsuited : Scope → ActText → Rule → Type 0
IsUnsuited scope a UnknownName = names_are_bound scope a ≡ false
IsUnsuited scope a BadArgument = ⊤
IsUnsuited scope a _ = ⊥

-- why arguments aren't of these types
abbrev pub ArgumentsBreak : List TypeDef → Scope → List Kind → ActText → Rule → Type 0
ArgumentsBreak types scope kinds a UnknownName = names_are_bound scope a ≡ false
ArgumentsBreak types scope kinds a BadArgument = (given : _) → AreArguments types scope kinds (map view a.with) given → ⊥
ArgumentsBreak types scope kinds a _ = ⊥

pub record PlansWith (types : List TypeDef) (scope : Scope) (kinds : List Kind) (v : Verb) (e : End) (n : ℕ) (b : Option (List ℕ)) (a : ActText) (act : Act) : Type 0 where
  pub verb : act.verb ≡ v
  pub subject : act.subject ≡ e
  pub name : act.name ≡ n
  pub bind : act.bind ≡ b
  pub arguments : AreArguments types scope kinds (map view a.with) act.with

module _ (t : Described) where
  -- the other end of the wire, none from a number that 32 bits don't hold: ports have at most 1,024
  abbrev pub wire_at : End → Option End
  wire_at e = option_and_then (λ n. wire_from t (end_at e.instance e.port n)) (small e.number)

  -- an output port for commands
  abbrev pub is_for_commands : Port → Bool
  is_for_commands x = is_general_output x.role && some_and (λ (d : PortDef). bytes_eq d.name (codes "Fw.Cmd")) (option_and_then (slice_get t.model.ports) x.of)

  abbrev pub is_recv : End → Bool
  is_recv e = has_role t (is_special CmdRecv) e

  -- the command of a name at the instance of an end
  abbrev pub command_at : List ℕ → End → Option ℕ
  command_at name e = option_and_then (λ (d : Component). command_named d.commands name) (component_of t.model e.instance)

  abbrev pub takes_at : End → ℕ → Option (List Kind)
  takes_at e n = option_map (λ (x : Command). kinds_of x.formals) (option_and_then (λ (d : Component). slice_get d.commands n) (component_of t.model e.instance))

  -- a command for what the end belongs to
  pub record IsSent (scope : Scope) (own e : End) (a : ActText) (act : Act) : Type 0 where
    pub verb : act.verb ≡ verb.Command
    pub subject : act.subject ≡ own
    pub named : command_at a.name e ≡ Some act.name
    pub arguments : (kinds : List Kind) × (takes_at e act.name ≡ Some kinds) × AreArguments t.model.types scope kinds (map view a.with) act.with
    pub bind : act.bind ≡ None

  abbrev pub SendBreaks : Scope → End → ActText → Rule → Type 0
  SendBreaks scope e a UnknownName = (is_some (command_at a.name e) && names_are_bound scope a) ≡ false
  SendBreaks scope e a BadArgument = (kinds : List Kind) × (option_and_then (takes_at e) (command_at a.name e) ≡ Some kinds) × ((given : _) → AreArguments t.model.types scope kinds (map view a.with) given → ⊥)
  SendBreaks scope e a _ = ⊥

  -- the machine that a component's machine instance runs
  abbrev pub machine_in : Component → ℕ → Option Machine
  machine_in c r = option_and_then (λ (x : Running). slice_get t.model.machines x.machine) (slice_get c.machines r)

  -- an action with a first key, of a handler of the instance, which has the component, at the place
  module _ (i : ℕ) (c : Component) (place : Spot) where
    -- the own instance, with the port of a call, command, post or respond, or the machine instance of a signal
    abbrev pub subject_of : FirstKey → ActText → Option End
    subject_of key.Call a = option_map (λ p. end_at i p a.at) (port_where (λ x. is_general_output x.role) c.ports a.first)
    subject_of key.Command a = option_map (λ p. end_at i p a.at) (port_where is_for_commands c.ports a.first)
    subject_of key.Signal a = option_map (λ r. end_at i r 0) (running_named c.machines a.first)
    subject_of key.Post a = option_map (λ p. end_at i p 0) (port_where (λ x. is_internal x.role) c.ports a.first)
    subject_of key.Respond a = option_map (λ p. end_at i p 0) (special_port t i CmdResp)
    subject_of _ a = Some (end_at i 0 0)

    abbrev pub wire_of : FirstKey → ActText → Option End
    wire_of k a = option_and_then wire_at (subject_of k a)

    -- the command, event, channel, parameter or signal
    abbrev pub name_in : FirstKey → ActText → Option ℕ
    name_in key.Command a = option_and_then (command_at a.name) (wire_of key.Command a)
    name_in key.Emit a = event_named c.events a.first
    name_in key.Write a = channel_named c.channels a.first
    name_in key.Read a = param_named c.params a.first
    name_in key.Signal a = option_and_then (λ r. option_and_then (λ (m : Machine). name_of m.signals a.name) (machine_in c r)) (running_named c.machines a.first)
    name_in _ a = Some 0

    -- the types of its arguments, where what it names is known
    abbrev pub kinds_in : FirstKey → ActText → Option (List Kind)
    kinds_in key.Call a = option_map (λ (x : Port). kinds_of x.formals) (option_and_then (λ p. slice_get c.ports p) (port_where (λ x. is_general_output x.role) c.ports a.first))
    kinds_in key.Command a = option_and_then (λ e. option_and_then (takes_at e) (command_at a.name e)) (wire_of key.Command a)
    kinds_in key.Emit a = option_map (λ (x : Event). kinds_of x.formals) (option_and_then (λ n. slice_get c.events n) (event_named c.events a.first))
    kinds_in key.Write a = option_map (λ (x : Channel). x.kind ∷ []) (option_and_then (λ n. slice_get c.channels n) (channel_named c.channels a.first))
    kinds_in key.Signal a =
        option_and_then (λ r. option_and_then (λ (m : Machine). option_map (λ (x : Named). option_to_list x.kind) (option_and_then (λ n. slice_get m.signals n) (name_of m.signals a.name))) (machine_in c r))
        (running_named c.machines a.first)
    kinds_in key.Post a = option_map (λ (x : Port). kinds_of x.formals) (option_and_then (λ p. slice_get c.ports p) (port_where (λ x. is_internal x.role) c.ports a.first))
    kinds_in key.Return a = option_map (λ k. k ∷ []) (returned_at t i place)
    kinds_in key.Read a = Some []
    kinds_in key.Respond a = Some []
    kinds_in key.Dispatch a = Some []

    -- ---- the rules

    -- all that it names is known
    abbrev pub is_known : FirstKey → ActText → Bool
    is_known key.Call a = is_some (subject_of key.Call a)
    is_known key.Command a = is_some (subject_of key.Command a) && if_some (λ e. not (is_recv e) || is_some (command_at a.name e)) (wire_of key.Command a)
    is_known key.Post a = is_some (subject_of key.Post a)
    is_known key.Respond a = true
    is_known k a = is_some (name_in k a)

    -- a call, a command and a respond go along a wire
    abbrev pub is_wired : FirstKey → ActText → Bool
    is_wired key.Call a = if_some (λ e. is_some (wire_at e)) (subject_of key.Call a)
    is_wired key.Command a = if_some (λ e. is_some (wire_at e)) (subject_of key.Command a)
    is_wired key.Respond a = is_some (wire_of key.Respond a)
    is_wired _ a = true

    -- a command goes to a recv port, a call to none, and a respond stands in a command's handler
    abbrev pub is_allowed : FirstKey → ActText → Bool
    is_allowed key.Call a = if_some (λ e. not (is_recv e)) (wire_of key.Call a)
    is_allowed key.Command a = if_some is_recv (wire_of key.Command a)
    is_allowed key.Respond a = is_command place
    is_allowed _ a = true

    -- a return stands last, where a result is wanted
    abbrev pub returns_well : FirstKey → Bool → Bool
    returns_well key.Return last = is_some (returned_at t i place) && last
    returns_well _ last = true

    -- a dispatch stands in a queued instance's handler
    abbrev pub dispatches_well : FirstKey → Bool
    dispatches_well key.Dispatch = is_queued c.queueing
    dispatches_well _ = true

    -- the action breaks a rule, given what is bound before it and whether it is the last one
    abbrev pub Breaks : Rule → FirstKey → Scope → Bool → ActText → Type 0
    Breaks UnknownName k scope last a = (is_known k a && names_are_bound scope a) ≡ false
    Breaks BadArgument k scope last a = (kinds : List Kind) × (kinds_in k a ≡ Some kinds) × ((given : _) → AreArguments t.model.types scope kinds (map view a.with) given → ⊥)
    Breaks NoWire k scope last a = is_wired k a ≡ false
    Breaks ActionNotAllowed k scope last a = is_allowed k a ≡ false
    Breaks BadReturn k scope last a = returns_well k last ≡ false
    Breaks BadDispatch k scope last a = dispatches_well k ≡ false
    Breaks _ k scope last a = ⊥

    -- ---- the plan

    pub record Plans (k : FirstKey) (scope : Scope) (last : Bool) (a : ActText) (act : Act) : Type 0 where
      pub verb : act.verb ≡ verb_of k
      pub subject : subject_of k a ≡ Some act.subject
      pub name : name_in k a ≡ Some act.name
      pub arguments : (kinds : List Kind) × (kinds_in k a ≡ Some kinds) × AreArguments t.model.types scope kinds (map view a.with) act.with
      pub bind : act.bind ≡ binding k a
      -- and the rules on it are kept
      pub known : is_known k a ≡ true
      pub wired : is_wired k a ≡ true
      pub allowed : is_allowed k a ≡ true
      pub returned : returns_well k last ≡ true
      pub dispatched : dispatches_well k ≡ true

    -- ---- what it binds

    -- the type of what it answers: a call its port's result, and a read its parameter
    abbrev pub answered : FirstKey → ActText → Option Kind
    answered key.Call a = option_and_then (λ p. result_at t i p) (port_where (λ x. is_general_output x.role) c.ports a.first)
    answered key.Read a = option_map (λ (x : Param). x.kind) (option_and_then (λ n. slice_get c.params n) (param_named c.params a.first))
    answered _ a = None

    abbrev pub scope_after : FirstKey → ActText → Scope → Scope
    scope_after k a = bound_to a.as_ (answered k a)
