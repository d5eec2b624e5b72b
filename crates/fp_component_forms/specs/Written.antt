-- What is written of the ports, interfaces and components of a source, over what uses mean and the values that expressions have. FPP Language
-- Specification, "Port Definitions", "Interface Definitions", "Component Definitions", "Port Instance Specifiers", "Internal Port Specifiers",
-- "Command Specifiers", "Event Specifiers", "Telemetry Channel Specifiers", "Parameter Specifiers", "Port Matching Specifiers", "State Machine
-- Instance Specifiers", "Interface Import Specifiers".
use Rattle.std.specs.Prelude.{◌≡◌, ℕ, ◌+◌, ◌<◌, Bool, true, false, cond, List, [], ◌∷◌, ◌++◌, map, flat_map, take, slice_get, Option, Some, None, option_map}
use Rattle.std.specs.List.{AllByRecursion}
use Rattle.fp_base.specs.declared.place.Span.{Span}
use Rattle.fp_base.specs.declared.value.Value.{Value}
use Rattle.fp_tree.specs.declared.source.Source.{Source}
use Rattle.fp_tree.specs.declared.name.Name.{Name}
use Rattle.fp_tree.specs.declared.name.Qual.{Qual}
use Rattle.fp_tree.specs.declared.definition.Def.{Def}
use Rattle.fp_tree.specs.declared.definition.Def.TheVariants as def
use Rattle.fp_tree.specs.declared.definition.Port.{Port}
use Rattle.fp_tree.specs.declared.expression.Expr.{Expr}
use Rattle.fp_tree.specs.declared.type_name.TypeName.{TypeName}
use Rattle.fp_tree.specs.declared.part.Formal.{Formal}
use Rattle.fp_tree.specs.declared.component.Component.{Component}
use Rattle.fp_tree.specs.declared.component.ComponentKind.{ComponentKind}
use Rattle.fp_tree.specs.declared.component.ComponentKind.TheVariants as component_kind
use Rattle.fp_tree.specs.declared.component.Full.{Full}
use Rattle.fp_tree.specs.declared.component.Full.TheVariants as full
use Rattle.fp_tree.specs.declared.component.General.{General}
use Rattle.fp_tree.specs.declared.component.GeneralKind.{GeneralKind}
use Rattle.fp_tree.specs.declared.component.GeneralKind.TheVariants as general
use Rattle.fp_tree.specs.declared.component.Import.{Import}
use Rattle.fp_tree.specs.declared.component.Interface.{Interface}
use Rattle.fp_tree.specs.declared.component.InterfacePart.{InterfacePart}
use Rattle.fp_tree.specs.declared.component.InterfacePart.TheVariants as interface_part
use Rattle.fp_tree.specs.declared.component.Internal.{Internal}
use Rattle.fp_tree.specs.declared.component.Match.{Match}
use Rattle.fp_tree.specs.declared.component.Part.{Part}
use Rattle.fp_tree.specs.declared.component.Part.TheVariants as part
use Rattle.fp_tree.specs.declared.component.Running.{Running}
use Rattle.fp_tree.specs.declared.component.Special.{Special}
use Rattle.fp_tree.specs.declared.component.SpecialKind.{SpecialKind}
use Rattle.fp_tree.specs.declared.component.SpecialKind.TheVariants as special
use Rattle.fp_tree.specs.declared.dictionary.Command.{Command}
use Rattle.fp_tree.specs.declared.dictionary.Event.{Event}
use Rattle.fp_tree.specs.declared.dictionary.Channel.{Channel}
use Rattle.fp_tree.specs.declared.dictionary.Limits.{Limits}
use Rattle.fp_tree.specs.declared.dictionary.Limit.{Limit}
use Rattle.fp_tree.specs.declared.dictionary.ParamDef.{ParamDef}
use Rattle.fp_tables.specs.Components.{definition_of}
use Rattle.fp_tables.specs.declared.component.Full.{Full as FullHere}
use Rattle.fp_tables.specs.declared.component.Full.TheVariants as full_here
use Rattle.fp_tables.specs.declared.component.Queueing.{Queueing}
use Rattle.fp_tables.specs.declared.component.Queueing.TheVariants as queueing
use Rattle.fp_tables.specs.declared.component.Special.{Special as SpecialHere}
use Rattle.fp_tables.specs.declared.component.Special.TheVariants as special_here
use Rattle.fp_tables.specs.declared.kind.Kind.{Kind}
use Rattle.fp_meaning.specs.declared.group.Group.{Group}
use Rattle.fp_meaning.specs.declared.group.Group.TheVariants as group
use Rattle.fp_meaning.specs.declared.item.Item.{Item}
use Rattle.fp_meaning.specs.declared.item.Item.TheVariants as item
use Rattle.fp_meaning.specs.declared.names.Definition.{Definition}
use Rattle.fp_meaning.specs.Layout.{component_scope, items}
use Rattle.fp_meaning.specs.Meaning.{Means}
use Rattle.fp_meaning.specs.Names.{Path, definitions, in_optional}
use Rattle.fp_meaning.specs.Sites.{ModelDef, component, interface}
use Rattle.fp_meaning.specs.Values.{Val, dotted, names_of, opened}
use Rattle.fp_type_forms.specs.Written.{AllAt, IsOnly, KindIs, NumberIs, text_in}
use Rattle.fp_part_values.specs.Names.{formal_names, part_names, written}
use Rattle.fp_written_parts.specs.declared.port.Given.{Given}
use Rattle.fp_written_parts.specs.declared.port.QueueWords.{QueueWords}
use Rattle.fp_written_parts.specs.declared.port.WrittenFormal.{WrittenFormal}
use Rattle.fp_written_parts.specs.declared.port.WrittenPortDef.{WrittenPortDef}
use Rattle.fp_written_parts.specs.declared.port.WrittenPort.{WrittenPort}
use Rattle.fp_written_parts.specs.declared.port.WrittenImport.{WrittenImport}
use Rattle.fp_written_parts.specs.declared.port.WrittenRole.{WrittenRole}
use Rattle.fp_written_parts.specs.declared.port.WrittenRole.TheVariants as role
use Rattle.fp_written_parts.specs.declared.dictionary.WrittenCommand.{WrittenCommand}
use Rattle.fp_written_parts.specs.declared.dictionary.WrittenEvent.{WrittenEvent}
use Rattle.fp_written_parts.specs.declared.dictionary.WrittenLimit.{WrittenLimit}
use Rattle.fp_written_parts.specs.declared.dictionary.WrittenChannel.{WrittenChannel}
use Rattle.fp_written_parts.specs.declared.dictionary.WrittenParam.{WrittenParam}
use Rattle.fp_written_parts.specs.declared.member.WrittenMatch.{WrittenMatch}
use Rattle.fp_written_parts.specs.declared.member.WrittenRunning.{WrittenRunning}
use Rattle.fp_written_parts.specs.declared.member.WrittenMember.{WrittenMember}
use Rattle.fp_written_parts.specs.declared.member.WrittenMember.TheVariants as member
use Rattle.fp_written_parts.specs.declared.member.WrittenInterface.{WrittenInterface}
use Rattle.fp_written_parts.specs.declared.member.WrittenComponent.{WrittenComponent}
use Rattle.fp_component_forms.specs.declared.writing.WrittenSource.{WrittenSource}

-- both are there and so related, or neither is
abbrev pub BothOrNeither : {A B : Type 0} → (A → B → Type 0) → Option A → Option B → Type 0
BothOrNeither R None None = Unit {0}
BothOrNeither R (Some x) (Some y) = R x y
BothOrNeither R _ _ = ⊥

-- ---- the definitions of a source by groups and by kinds of nodes

abbrev pub same_group : Group → Group → Bool
same_group group.Kind group.Kind = true
same_group group.Value group.Value = true
same_group group.Port group.Port = true
same_group group.Component group.Component = true
same_group group.Instance group.Instance = true
same_group group.Topology group.Topology = true
same_group group.Machine group.Machine = true
same_group group.Interface group.Interface = true
same_group _ _ = false

-- how many definitions are of a group
abbrev pub among : Group → List Definition → ℕ
among g [] = 0
among g (d ∷ ds) = cond (same_group g d.group) 1 0 + among g ds

-- how many of a group stand before the definition with the number
abbrev pub before : Group → List Definition → ℕ → ℕ
before g ds number = among g (take number ds)

-- a node in its scope
pub record Scoped (A : Type 0) : Type 0 where
  pub scope : Path
  pub node : A

abbrev pub scoped : {A : Type 0} → Path → A → Scoped A
scoped s x = record { scope = s; node = x }

abbrev pub port_in : Path → Def → List (Scoped Port)
port_in scope (def.Port p) = scoped scope p ∷ []
port_in scope _ = []

abbrev pub interface_in : Path → ModelDef → List (Scoped Interface)
interface_in scope (interface d) = scoped scope d ∷ []
interface_in scope _ = []

abbrev pub component_in : Path → ModelDef → List (Scoped Component)
component_in scope (component d) = scoped scope d ∷ []
component_in scope _ = []

abbrev pub port_declared : Item → List (Scoped Port)
port_declared (item.Defined s) = port_in s.scope s.definition
port_declared _ = []

abbrev pub interface_declared : Item → List (Scoped Interface)
interface_declared (item.Declared d) = interface_in d.scope d.definition
interface_declared _ = []

abbrev pub component_declared : Item → List (Scoped Component)
component_declared (item.Declared d) = component_in d.scope d.definition
component_declared _ = []

-- in source order: a port definition and an interface are named by their positions here
abbrev pub port_definitions : Source → List (Scoped Port)
port_definitions source = flat_map port_declared (items source)

abbrev pub interfaces : Source → List (Scoped Interface)
interfaces source = flat_map interface_declared (items source)

abbrev pub components : Source → List (Scoped Component)
components source = flat_map component_declared (items source)

-- the name behind those of the modules round it, with a dot between each two
abbrev pub qualified : Path → Name → List ℕ
qualified scope name = dotted (scope ++ name.text ∷ [])

abbrev pub port_names : Source → List (List ℕ)
port_names source = map (λ (p : Scoped Port). qualified p.scope p.node.name) (port_definitions source)

-- ---- words

abbrev pub full_of : Full → FullHere
full_of full.Assert = full_here.Assert
full_of full.Block = full_here.Block
full_of full.Dropped = full_here.Dropped
full_of full.Hook = full_here.Hook

abbrev pub role_of : GeneralKind → WrittenRole
role_of general.AsyncInput = role.AsyncInput
role_of general.SyncInput = role.SyncInput
role_of general.GuardedInput = role.GuardedInput
role_of general.Output = role.Output

abbrev pub special_of : SpecialKind → SpecialHere
special_of special.CommandRecv = special_here.CmdRecv
special_of special.CommandReg = special_here.CmdReg
special_of special.CommandResp = special_here.CmdResp
special_of special.Event = special_here.Event
special_of special.TextEvent = special_here.TextEvent
special_of special.Telemetry = special_here.Tlm
special_of special.TimeGet = special_here.Time
special_of special.ParamGet = special_here.PrmGet
special_of special.ParamSet = special_here.PrmSet

abbrev pub queueing_of : ComponentKind → Queueing
queueing_of component_kind.Active = queueing.Active
queueing_of component_kind.Passive = queueing.Passive
queueing_of component_kind.Queued = queueing.Queued

-- nothing is written of a queue
abbrev pub no_queue : QueueWords
no_queue = record { priority = None; full = None; word = None }

-- the position of the first of some names that is this one; None where none is
abbrev pub FirstOf : List (List ℕ) → List ℕ → Option ℕ → Type 0
FirstOf names name None = (k : ℕ) → slice_get names k ≡ Some name → ⊥
FirstOf names name (Some position) = (slice_get names position ≡ Some name) × ((k : ℕ) → k < position → slice_get names k ≡ Some name → ⊥)

-- of the port definition that a kind of special ports has
abbrev pub SpecialTypeIs : List (List ℕ) → SpecialHere → Option ℕ → Type 0
SpecialTypeIs names special position = FirstOf names (definition_of special) position

-- a part of a component that is a member of it: what is defined inside it, and what was included, isn't
abbrev pub member_part : Part → List Part
member_part (part.Def d) = []
member_part (part.Machine d) = []
member_part (part.Include i) = []
member_part p = p ∷ []

-- what stands in an interface may stand in a component
abbrev pub part_of : InterfacePart → Part
part_of (interface_part.General p) = part.General p
part_of (interface_part.Special p) = part.Special p
part_of (interface_part.Import i) = part.Import i

-- those of a side of a channel
abbrev pub limits_in : Option Limits → List Limit
limits_in side = in_optional (λ (ls : Limits). ls.limits) side

-- ---- nodes in a scope

module _ (source : Source) (scope : Path) where
  -- an expression in whose place a number is wanted
  pub record GivenIs (e : Expr) (g : Given) : Type 0 where
    pub number : IsOnly (NumberIs source scope e) g.number
    pub at : g.at ≡ e.at.first

  -- a name means a definition of a group that has the position among those of the group
  abbrev pub PositionIs : Group → Qual → ℕ → Type 0
  PositionIs g q position = (number : ℕ) × Means (definitions source) scope (names_of q) g number × (position ≡ before g (definitions source) number)

  abbrev pub TypeNameIs : TypeName → Kind → Type 0
  TypeNameIs t k = KindIs source scope t.form k

  -- what stands behind `default`, by its value where it has one
  abbrev pub DefaultIs : Option Expr → Option Value → Type 0
  DefaultIs None value = value ≡ None
  DefaultIs (Some e) value = IsOnly (Val source scope (opened e)) value

  pub record QueueIs (number : Option Expr) (behavior : Option Full) (place : Option Span) (q : QueueWords) : Type 0 where
    pub priority : BothOrNeither GivenIs number q.priority
    pub full : q.full ≡ option_map full_of behavior
    pub word : q.word ≡ option_map (λ (s : Span). s.first) place

  pub record FormalIs (f : Formal) (w : WrittenFormal) : Type 0 where
    pub name : w.name ≡ f.name.text
    pub at : w.at ≡ f.name.at.first
    pub kind : TypeNameIs f.of w.kind
    pub by_ref : w.by_ref ≡ f.by_ref
    pub note : w.note ≡ f.note

  abbrev pub FormalsAre : List Formal → List WrittenFormal → Type 0
  FormalsAre fs ws = AllAt (λ position. FormalIs) 0 fs ws

  -- ---- ports

  pub record GeneralIs (p : General) (w : WrittenPort) : Type 0 where
    pub name : w.name ≡ p.name.text
    pub at : w.at ≡ p.name.at.first
    pub begins : w.begins ≡ p.at.first
    pub role : w.role ≡ role_of p.kind
    pub size : BothOrNeither GivenIs p.size w.size
    pub of : BothOrNeither (PositionIs group.Port) p.of w.of
    pub formals : w.formals ≡ []
    pub queue : QueueIs p.priority p.full p.queue_word w.queue

  pub record SpecialIs (p : Special) (w : WrittenPort) : Type 0 where
    pub name : w.name ≡ p.name.text
    pub at : w.at ≡ p.name.at.first
    pub begins : w.begins ≡ p.at.first
    pub role : w.role ≡ role.Special (special_of p.kind)
    pub size : w.size ≡ None
    pub of : SpecialTypeIs (port_names source) (special_of p.kind) w.of
    pub formals : w.formals ≡ []
    pub queue : w.queue ≡ no_queue

  pub record InternalIs (p : Internal) (w : WrittenPort) : Type 0 where
    pub name : w.name ≡ p.name.text
    pub at : w.at ≡ p.name.at.first
    pub begins : w.begins ≡ p.at.first
    pub role : w.role ≡ role.Internal
    pub size : w.size ≡ None
    pub of : w.of ≡ None
    pub formals : FormalsAre p.formals w.formals
    pub queue : QueueIs p.priority p.full p.queue_word w.queue

  pub record ImportIs (i : Import) (w : WrittenImport) : Type 0 where
    pub interface : PositionIs group.Interface i.of w.interface
    pub at : w.at ≡ i.at.first

  -- ---- what a dictionary lists

  pub record CommandIs (c : Command) (w : WrittenCommand) : Type 0 where
    pub name : w.name ≡ c.name.text
    pub at : w.at ≡ c.name.at.first
    pub begins : w.begins ≡ c.at.first
    pub kind : w.kind ≡ c.kind
    pub formals : FormalsAre c.formals w.formals
    pub opcode : BothOrNeither GivenIs c.opcode w.opcode
    pub queue : QueueIs c.priority c.full c.queue_word w.queue
    pub note : w.note ≡ c.note

  pub record EventIs (e : Event) (w : WrittenEvent) : Type 0 where
    pub name : w.name ≡ e.name.text
    pub at : w.at ≡ e.name.at.first
    pub formals : FormalsAre e.formals w.formals
    pub severity : w.severity ≡ e.severity
    pub id : BothOrNeither GivenIs e.id w.id
    pub format : w.format ≡ e.format.text
    pub format_at : w.format_at ≡ e.format.at.first
    pub throttle : BothOrNeither GivenIs e.throttle w.throttle
    pub note : w.note ≡ e.note

  pub record LimitIs (high : Bool) (l : Limit) (w : WrittenLimit) : Type 0 where
    pub side : w.high ≡ high
    pub color : w.color ≡ l.color
    pub at : w.at ≡ l.at.first
    pub value : GivenIs l.value w.value

  abbrev pub SideIs : Bool → Option Limits → List WrittenLimit → Type 0
  SideIs high side ws = AllAt (λ position. LimitIs high) 0 (limits_in side) ws

  -- those from below, then those from above
  abbrev pub LimitsAre : Option Limits → Option Limits → List WrittenLimit → Type 0
  LimitsAre low high ws = (lows highs : List WrittenLimit) × SideIs false low lows × SideIs true high highs × (ws ≡ lows ++ highs)

  pub record ChannelIs (t : Channel) (w : WrittenChannel) : Type 0 where
    pub name : w.name ≡ t.name.text
    pub at : w.at ≡ t.name.at.first
    pub kind : TypeNameIs t.of w.kind
    pub id : BothOrNeither GivenIs t.id w.id
    pub update : w.update ≡ t.update
    pub format : w.format ≡ text_in t.format
    pub limits : LimitsAre t.low t.high w.limits
    pub note : w.note ≡ t.note

  pub record ParamIs (p : ParamDef) (w : WrittenParam) : Type 0 where
    pub name : w.name ≡ p.name.text
    pub at : w.at ≡ p.name.at.first
    pub kind : TypeNameIs p.of w.kind
    pub default : DefaultIs p.default w.default
    pub id : BothOrNeither GivenIs p.id w.id
    pub set : BothOrNeither GivenIs p.set w.set
    pub save : BothOrNeither GivenIs p.save w.save
    pub note : w.note ≡ p.note

  -- ---- members

  pub record MatchIs (m : Match) (w : WrittenMatch) : Type 0 where
    pub first : w.first ≡ m.first.text
    pub second : w.second ≡ m.second.text
    pub at : w.at ≡ m.at.first

  pub record RunningIs (r : Running) (w : WrittenRunning) : Type 0 where
    pub name : w.name ≡ r.name.text
    pub at : w.at ≡ r.name.at.first
    pub begins : w.begins ≡ r.at.first
    pub machine : PositionIs group.Machine r.of w.machine
    pub queue : QueueIs r.priority r.full r.queue_word w.queue

  abbrev pub MemberIs : Part → WrittenMember → Type 0
  MemberIs (part.General p) (member.Port w) = GeneralIs p w
  MemberIs (part.Special p) (member.Port w) = SpecialIs p w
  MemberIs (part.Internal p) (member.Port w) = InternalIs p w
  MemberIs (part.Import i) (member.Import w) = ImportIs i w
  MemberIs (part.Command c) (member.Command w) = CommandIs c w
  MemberIs (part.Event e) (member.Event w) = EventIs e w
  MemberIs (part.Channel t) (member.Channel w) = ChannelIs t w
  MemberIs (part.Param p) (member.Param w) = ParamIs p w
  MemberIs (part.Match m) (member.Match w) = MatchIs m w
  MemberIs (part.Running r) (member.Running w) = RunningIs r w
  MemberIs _ _ = ⊥

  abbrev pub MembersAre : List Part → List WrittenMember → Type 0
  MembersAre ps ms = AllAt (λ position. MemberIs) 0 (flat_map member_part ps) ms

  abbrev pub InterfaceMembersAre : List InterfacePart → List WrittenMember → Type 0
  InterfaceMembersAre ps ms = AllAt (λ position (p : InterfacePart). MemberIs (part_of p)) 0 ps ms

-- ---- definitions

pub record PortDefIs (source : Source) (p : Scoped Port) (w : WrittenPortDef) : Type 0 where
  pub name : w.name ≡ qualified p.scope p.node.name
  pub formals : FormalsAre source p.scope p.node.formals w.formals
  pub result : BothOrNeither (TypeNameIs source p.scope) p.node.result w.result

abbrev pub InterfaceIs : Source → Scoped Interface → WrittenInterface → Type 0
InterfaceIs source i w = InterfaceMembersAre source i.scope i.node.parts w.members

pub record ComponentIs (source : Source) (c : Scoped Component) (w : WrittenComponent) : Type 0 where
  pub name : w.name ≡ qualified c.scope c.node.name
  pub at : w.at ≡ c.node.name.at.first
  pub queueing : w.queueing ≡ queueing_of c.node.kind
  pub members : MembersAre source (component_scope c.scope c.node) c.node.parts w.members

abbrev pub PortDefsAre : Source → List WrittenPortDef → Type 0
PortDefsAre source ws = AllAt (λ position. PortDefIs source) 0 (port_definitions source) ws

abbrev pub InterfacesAre : Source → List WrittenInterface → Type 0
InterfacesAre source ws = AllAt (λ position. InterfaceIs source) 0 (interfaces source) ws

abbrev pub ComponentsAre : Source → List WrittenComponent → Type 0
ComponentsAre source ws = AllAt (λ position. ComponentIs source) 0 (components source) ws

-- of each in source order
pub record IsWrittenSource (source : Source) (w : WrittenSource) : Type 0 where
  pub definitions : PortDefsAre source w.definitions
  pub interfaces : InterfacesAre source w.interfaces
  pub components : ComponentsAre source w.components

-- ---- type names that name types

abbrev pub HasType : Source → Path → TypeName → Type 0
HasType source scope t = (k : Kind) × TypeNameIs source scope t k

abbrev pub AllHaveTypes : Source → Path → List TypeName → Type 0
AllHaveTypes source scope ts = AllByRecursion (HasType source scope) ts

-- those of the formals and the result of a port definition
abbrev pub port_type_names : Port → List TypeName
port_type_names p = formal_names p.formals ++ written p.result

abbrev pub DefNamesStand : Source → Path → Def → Type 0
DefNamesStand source scope (def.Port p) = AllHaveTypes source scope (port_type_names p)
DefNamesStand source scope _ = Unit {0}

abbrev pub ModelNamesStand : Source → Path → ModelDef → Type 0
ModelNamesStand source scope (component d) = AllHaveTypes source (component_scope scope d) (flat_map part_names d.parts)
ModelNamesStand source scope _ = Unit {0}

abbrev pub ItemNamesStand : Source → Item → Type 0
ItemNamesStand source (item.Defined s) = DefNamesStand source s.scope s.definition
ItemNamesStand source (item.Declared d) = ModelNamesStand source d.scope d.definition
ItemNamesStand source _ = Unit {0}

-- each type name in a port definition and in the own parts of a component names a type
abbrev pub TypeNamesStand : Source → Type 0
TypeNamesStand source = AllByRecursion (ItemNamesStand source) (items source)
