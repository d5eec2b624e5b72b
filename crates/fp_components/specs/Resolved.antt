-- The components of a model, from what is written of them. FPP Language Specification, "Component Definitions", "Port Instance Specifiers", "Command
-- Specifiers", "Event Specifiers", "Telemetry Channel Specifiers", "Parameter Specifiers", "Port Matching Specifiers", "State Machine Instances".
use Rattle.std.specs.Prelude.{◌≡◌, ℕ, suc, ℤ, pos, Bool, true, false, List, [], ◌∷◌, codes, map, length, slice_get, position, Option, Some, None, is_some, flat_map}
use Rattle.fp_base.specs.declared.value.Value.{Value, Int}
use Rattle.fp_tree.specs.declared.dictionary.CommandKind.{CommandKind}
use Rattle.fp_tree.specs.declared.dictionary.CommandKind.TheVariants as kind
use Rattle.fp_tree.specs.declared.dictionary.Severity.{Severity}
use Rattle.fp_tree.specs.declared.dictionary.Severity.TheVariants.{ActivityHigh, ActivityLow, Command as Commanded, Diagnostic, Fatal, WarningHigh, WarningLow}
use Rattle.fp_tree.specs.declared.dictionary.Update.{Update}
use Rattle.fp_tree.specs.declared.dictionary.Update.TheVariants.{OnChange}
use Rattle.fp_tables.specs.declared.kind.Kind.{Kind}
use Rattle.fp_tables.specs.declared.kind.Formal.{Formal}
use Rattle.fp_tables.specs.declared.kind.PortDef.{PortDef}
use Rattle.fp_tables.specs.declared.component.Full.{Full}
use Rattle.fp_tables.specs.declared.component.Full.TheVariants.{Assert}
use Rattle.fp_tables.specs.declared.component.Way.{Way}
use Rattle.fp_tables.specs.declared.component.Way.TheVariants.{Later, Sync, Guarded}
use Rattle.fp_tables.specs.declared.component.Role.{Role}
use Rattle.fp_tables.specs.declared.component.Role.TheVariants as role
use Rattle.fp_tables.specs.declared.component.Port.{Port}
use Rattle.fp_tables.specs.declared.component.CommandPart.TheVariants.{Plain, SetParam, SaveParam}
use Rattle.fp_tables.specs.declared.component.Command.{Command}
use Rattle.fp_tables.specs.declared.component.Event.{Event}
use Rattle.fp_tables.specs.declared.component.Limit.{Limit}
use Rattle.fp_tables.specs.declared.component.Channel.{Channel}
use Rattle.fp_tables.specs.declared.component.Param.{Param}
use Rattle.fp_tables.specs.declared.component.Running.{Running}
use Rattle.fp_tables.specs.declared.component.Component.{Component}
use Rattle.fp_formats.specs.Spelling.{IsFormat}
use Rattle.fp_type_sizes.specs.declared.written.WrittenType.{WrittenType}
use Rattle.fp_types.specs.Converting.{Converts, DefaultIs}
use Rattle.fp_written_parts.specs.declared.port.Given.{Given}
use Rattle.fp_written_parts.specs.declared.port.QueueWords.{QueueWords}
use Rattle.fp_written_parts.specs.declared.port.WrittenFormal.{WrittenFormal}
use Rattle.fp_written_parts.specs.declared.port.WrittenPortDef.{WrittenPortDef}
use Rattle.fp_written_parts.specs.declared.port.WrittenRole.{WrittenRole}
use Rattle.fp_written_parts.specs.declared.port.WrittenRole.TheVariants.{AsyncInput, SyncInput, GuardedInput, Output, Special, Internal}
use Rattle.fp_written_parts.specs.declared.port.WrittenPort.{WrittenPort}
use Rattle.fp_written_parts.specs.declared.dictionary.WrittenCommand.{WrittenCommand}
use Rattle.fp_written_parts.specs.declared.dictionary.WrittenEvent.{WrittenEvent}
use Rattle.fp_written_parts.specs.declared.dictionary.WrittenLimit.{WrittenLimit}
use Rattle.fp_written_parts.specs.declared.dictionary.WrittenChannel.{WrittenChannel}
use Rattle.fp_written_parts.specs.declared.dictionary.WrittenParam.{WrittenParam}
use Rattle.fp_written_parts.specs.declared.member.WrittenMatch.{WrittenMatch}
use Rattle.fp_written_parts.specs.declared.member.WrittenRunning.{WrittenRunning}
use Rattle.fp_written_parts.specs.declared.member.WrittenMember.{WrittenMember}
use Rattle.fp_written_parts.specs.declared.member.WrittenMember.TheVariants as member
use Rattle.fp_written_parts.specs.declared.member.WrittenInterface.{WrittenInterface}
use Rattle.fp_written_parts.specs.declared.member.WrittenComponent.{WrittenComponent}
use Rattle.fp_written_parts.specs.Giving.{GiveAll}
use Rattle.fp_component_rules.specs.Firsts.{is_named}
use Rattle.fp_dictdefs.specs.declared.listed.Listed.{Listed}
use Rattle.fp_dictdefs.specs.Ids.{IsGivenOr, HasId}
use Rattle.fp_dictdefs.specs.Listed.{set_name, save_name, commands_in, events_in, channels_in, params_in}
use Rattle.fp_dictdefs.specs.Tested.{color_number}

-- one list is as long as another, and it holds at each position of the two that stand there
pub record AreEach {A B : Type 0} (is : ℕ → A → B → Type 0) (xs : List A) (ys : List B) : Type 0 where
  pub each : length ys ≡ length xs
  pub at : (k : ℕ) (x : A) (y : B) → slice_get xs k ≡ Some x → slice_get ys k ≡ Some y → is k x y

-- ---- numbers that are written, else implied

abbrev pub IsNumber : ℤ → Option Given → ℤ → Type 0
IsNumber implied given n = IsGivenOr (λ m. m ≡ implied) given n

-- where none is written there is none
abbrev pub IsThrottle : Option Given → Option ℕ → Type 0
IsThrottle None o = o ≡ None
IsThrottle (Some g) o = (n : ℕ) × (g.number ≡ Some (pos n)) × (o ≡ Some n)

-- the id of the k-th of a list
abbrev pub IsId : List Listed → ℕ → ℕ → Type 0
IsId listed k id = HasId listed k (pos id)

-- ---- queues

abbrev pub full_of : Option Full → Full
full_of None = Assert
full_of (Some f) = f

abbrev pub IsLater : QueueWords → Way → Type 0
IsLater q (Later priority full) = IsNumber (pos 0) q.priority priority × (full ≡ full_of q.full)
IsLater q _ = ⊥

-- ---- parameters of ports, commands and events, and definitions of ports

abbrev pub formal_of : WrittenFormal → Formal
formal_of f = record { name = f.name; kind = f.kind; by_ref = f.by_ref; note = f.note }

abbrev pub formals_of : List WrittenFormal → List Formal
formals_of fs = map formal_of fs

abbrev pub port_def_of : WrittenPortDef → PortDef
port_def_of d = record { name = d.name; formals = formals_of d.formals; result = d.result }

-- ---- ports

abbrev pub IsRole : WrittenRole → QueueWords → Role → Type 0
IsRole AsyncInput q r = (way : Way) × (r ≡ role.Input way) × IsLater q way
IsRole SyncInput q r = r ≡ role.Input Sync
IsRole GuardedInput q r = r ≡ role.Input Guarded
IsRole Output q r = r ≡ role.Output
IsRole (Special s) q r = r ≡ role.Special s
IsRole Internal q r = (way : Way) × (r ≡ role.Internal way) × IsLater q way

-- those of the definition at a position
abbrev pub AreDefined : List WrittenPortDef → Option ℕ → List Formal → Type 0
AreDefined definitions None fs = fs ≡ []
AreDefined definitions (Some k) fs = (d : WrittenPortDef) × (slice_get definitions k ≡ Some d) × (fs ≡ formals_of d.formals)

-- an internal port has its own, each other port those of its definition
abbrev pub ArePortFormals : List WrittenPortDef → WrittenRole → WrittenPort → List Formal → Type 0
ArePortFormals definitions Internal p fs = fs ≡ formals_of p.formals
ArePortFormals definitions _ p fs = AreDefined definitions p.of fs

pub record PortIs (definitions : List WrittenPortDef) (p : WrittenPort) (q : Port) : Type 0 where
  pub name : q.name ≡ p.name
  pub role : IsRole p.role p.queue q.role
  pub size : IsNumber (pos 1) p.size (pos q.size)
  pub of : q.of ≡ p.of
  pub formals : ArePortFormals definitions p.role p q.formals

-- ---- commands

-- what is a command of a component: one that is written, and those that set and save a parameter, by its position among the parameters
pub data CommandHere : Type 0 where
  written : WrittenCommand → CommandHere
  sets : ℕ → WrittenParam → CommandHere
  saves : ℕ → WrittenParam → CommandHere

-- in source order, behind so many parameters; a parameter stands twice
abbrev pub commands_from : ℕ → List WrittenMember → List CommandHere
commands_from n [] = []
commands_from n (member.Command c ∷ ms) = written c ∷ commands_from n ms
commands_from n (member.Param p ∷ ms) = sets n p ∷ saves n p ∷ commands_from (suc n) ms
commands_from n (_ ∷ ms) = commands_from n ms

abbrev pub IsWay : CommandKind → QueueWords → Way → Type 0
IsWay kind.Async q way = IsLater q way
IsWay kind.Sync q way = way ≡ Sync
IsWay kind.Guarded q way = way ≡ Guarded

pub record IsWrittenCommand (c : WrittenCommand) (d : Command) : Type 0 where
  pub name : d.name ≡ c.name
  pub part : d.part ≡ Plain
  pub way : IsWay c.kind c.queue d.way
  pub formals : d.formals ≡ formals_of c.formals
  pub note : d.note ≡ c.note

-- the parameter of a command that sets a value
abbrev pub value_formal : Kind → Formal
value_formal k = record { name = codes "val"; kind = k; by_ref = false; note = [] }

pub record IsSetCommand (n : ℕ) (p : WrittenParam) (d : Command) : Type 0 where
  pub name : d.name ≡ set_name p.name
  pub part : d.part ≡ SetParam n
  pub way : d.way ≡ Sync
  pub formals : d.formals ≡ value_formal p.kind ∷ []
  pub note : d.note ≡ []

pub record IsSaveCommand (n : ℕ) (p : WrittenParam) (d : Command) : Type 0 where
  pub name : d.name ≡ save_name p.name
  pub part : d.part ≡ SaveParam n
  pub way : d.way ≡ Sync
  pub formals : d.formals ≡ []
  pub note : d.note ≡ []

abbrev pub IsCommandHere : CommandHere → Command → Type 0
IsCommandHere (written c) d = IsWrittenCommand c d
IsCommandHere (sets n p) d = IsSetCommand n p d
IsCommandHere (saves n p) d = IsSaveCommand n p d

pub record IsCommand (listed : List Listed) (k : ℕ) (h : CommandHere) (d : Command) : Type 0 where
  pub opcode : IsId listed k d.opcode
  pub is : IsCommandHere h d

-- ---- events

abbrev pub severity_code : Severity → ℕ
severity_code ActivityHigh = 0
severity_code ActivityLow = 1
severity_code Commanded = 2
severity_code Diagnostic = 3
severity_code Fatal = 4
severity_code WarningHigh = 5
severity_code WarningLow = 6

pub record IsEvent (listed : List Listed) (k : ℕ) (e : WrittenEvent) (d : Event) : Type 0 where
  pub name : d.name ≡ e.name
  pub id : IsId listed k d.id
  pub severity : d.severity ≡ severity_code e.severity
  pub formals : d.formals ≡ formals_of e.formals
  pub format : d.format ≡ e.format
  pub fields : IsFormat e.format d.fields.parts
  pub throttle : IsThrottle e.throttle d.throttle
  pub note : d.note ≡ e.note

-- ---- telemetry channels

abbrev pub is_on_change : Option Update → Bool
is_on_change (Some OnChange) = true
is_on_change _ = false

pub record IsLimit (l : WrittenLimit) (d : Limit) : Type 0 where
  pub high : d.high ≡ l.high
  pub color : d.color ≡ color_number l.color
  pub value : (n : ℤ) × (l.value.number ≡ Some n) × (d.value ≡ Int n)

pub record IsChannel (listed : List Listed) (k : ℕ) (t : WrittenChannel) (d : Channel) : Type 0 where
  pub name : d.name ≡ t.name
  pub id : IsId listed k d.id
  pub kind : d.kind ≡ t.kind
  pub on_change : d.on_change ≡ is_on_change t.update
  pub format : d.format ≡ t.format
  pub limits : AreEach (λ at. IsLimit) t.limits d.limits
  pub note : d.note ≡ t.note

-- ---- parameters

-- what is written becomes the default, else it is that of the type
abbrev pub IsDefault : List WrittenType → Kind → Option Value → Value → Type 0
IsDefault ws k None d = DefaultIs ws k d
IsDefault ws k (Some v) d = Converts ws v k d

pub record IsParam (ws : List WrittenType) (listed : List Listed) (k : ℕ) (p : WrittenParam) (d : Param) : Type 0 where
  pub name : d.name ≡ p.name
  pub id : IsId listed k d.id
  pub kind : d.kind ≡ p.kind
  pub default : IsDefault ws p.kind p.default d.default
  pub written : d.written ≡ is_some p.default
  pub note : d.note ≡ p.note

-- ---- matches, and instances of state machines

-- the positions of the first ports of the two names
pub record IsMatch (all : List WrittenPort) (m : WrittenMatch) (pair : ℕ × ℕ) : Type 0 where
  pub first : position (is_named m.first) all ≡ Some pair.0
  pub second : position (is_named m.second) all ≡ Some pair.1

pub record IsRunning (r : WrittenRunning) (d : Running) : Type 0 where
  pub name : d.name ≡ r.name
  pub machine : d.machine ≡ r.machine
  pub way : IsLater r.queue d.way

-- ---- what members are, kind by kind in source order

abbrev pub event_in : WrittenMember → List WrittenEvent
event_in (member.Event e) = e ∷ []
event_in _ = []

abbrev pub channel_in : WrittenMember → List WrittenChannel
channel_in (member.Channel t) = t ∷ []
channel_in _ = []

abbrev pub param_in : WrittenMember → List WrittenParam
param_in (member.Param p) = p ∷ []
param_in _ = []

abbrev pub match_in : WrittenMember → List WrittenMatch
match_in (member.Match m) = m ∷ []
match_in _ = []

abbrev pub running_in : WrittenMember → List WrittenRunning
running_in (member.Running r) = r ∷ []
running_in _ = []

-- ---- components

module _ (interfaces : List WrittenInterface) (definitions : List WrittenPortDef) (ws : List WrittenType) where
  -- `all` are the ports that its members give
  pub record IsComponent (w : WrittenComponent) (c : Component) : Type 0 where
    pub name : c.name ≡ w.name
    pub queueing : c.queueing ≡ w.queueing
    pub all : List WrittenPort
    pub given : GiveAll interfaces w.members all
    pub ports : AreEach (λ k. PortIs definitions) all c.ports
    pub commands : AreEach (IsCommand (flat_map commands_in w.members)) (commands_from 0 w.members) c.commands
    pub events : AreEach (IsEvent (flat_map events_in w.members)) (flat_map event_in w.members) c.events
    pub channels : AreEach (IsChannel (flat_map channels_in w.members)) (flat_map channel_in w.members) c.channels
    pub params : AreEach (IsParam ws (flat_map params_in w.members)) (flat_map param_in w.members) c.params
    pub matches : AreEach (λ k. IsMatch all) (flat_map match_in w.members) c.matches
    pub machines : AreEach (λ k. IsRunning) (flat_map running_in w.members) c.machines

  abbrev pub AreComponents : List WrittenComponent → List Component → Type 0
  AreComponents components cs = AreEach (λ k. IsComponent) components cs
