-- What components are wanted to have besides what the rules on ports, dictionaries and whole components say: names that are names, positions that lie,
-- and values that have their types. FPP Language Specification, "Component Definitions".
use Rattle.std.specs.Prelude.{◌≡◌, ℕ, ℤ, Bool, true, false, ◌&&◌, List, length, map, flat_map, slice_get, Option, Some, None}
use Rattle.std.specs.List.{list_all}
use Rattle.fp_base.specs.Names.{is_name}
use Rattle.fp_base.specs.declared.format.FormatPiece.{FormatPiece}
use Rattle.fp_base.specs.declared.value.Value.{Value, Int}
use Rattle.fp_tables.specs.Components.{definition_of}
use Rattle.fp_tables.specs.Formats.{agree}
use Rattle.fp_tables.specs.Lists.{if_some}
use Rattle.fp_tables.specs.Names.{is_qualified, texts_differ}
use Rattle.fp_tables.specs.Positions.{kind_lies, component_is_short}
use Rattle.fp_tables.specs.Types.{has_kind, is_of_size}
use Rattle.fp_tables.specs.declared.kind.Kind.{Kind}
use Rattle.fp_tables.specs.declared.kind.TypeDef.{TypeDef}
use Rattle.fp_tables.specs.declared.component.Component.{Component}
use Rattle.fp_tables.specs.declared.machine.Machine.{Machine}
use Rattle.fp_formats.specs.Spelling.{IsFormat}
use Rattle.fp_type_sizes.specs.declared.written.WrittenType.{WrittenType}
use Rattle.fp_types.specs.Converting.{Converts, DefaultIs}
use Rattle.fp_written_parts.specs.declared.port.WrittenFormal.{WrittenFormal}
use Rattle.fp_written_parts.specs.declared.port.WrittenPortDef.{WrittenPortDef}
use Rattle.fp_written_parts.specs.declared.port.WrittenRole.{WrittenRole}
use Rattle.fp_written_parts.specs.declared.port.WrittenRole.TheVariants.{Special, Internal}
use Rattle.fp_written_parts.specs.declared.dictionary.WrittenEvent.{WrittenEvent}
use Rattle.fp_written_parts.specs.declared.dictionary.WrittenLimit.{WrittenLimit}
use Rattle.fp_written_parts.specs.declared.dictionary.WrittenChannel.{WrittenChannel}
use Rattle.fp_written_parts.specs.declared.member.WrittenRunning.{WrittenRunning}
use Rattle.fp_written_parts.specs.declared.member.WrittenMember.{WrittenMember}
use Rattle.fp_written_parts.specs.declared.member.WrittenMember.TheVariants as member
use Rattle.fp_written_parts.specs.declared.member.WrittenInterface.{WrittenInterface}
use Rattle.fp_written_parts.specs.declared.member.WrittenComponent.{WrittenComponent}
use Rattle.fp_components.specs.Resolved.{formals_of, running_in}

-- it holds of each member of the interfaces and of the components
pub record OfEachMember (interfaces : List WrittenInterface) (written : List WrittenComponent) (P : WrittenMember → Type 0) : Type 0 where
  pub of_interfaces : (v k : ℕ) (f : WrittenInterface) (m : WrittenMember) → slice_get interfaces v ≡ Some f → slice_get f.members k ≡ Some m → P m
  pub of_components : (v k : ℕ) (w : WrittenComponent) (m : WrittenMember) → slice_get written v ≡ Some w → slice_get w.members k ≡ Some m → P m

-- ---- names

abbrev pub formals_have_names : List WrittenFormal → Bool
formals_have_names fs = list_all (λ (f : WrittenFormal). is_name f.name) fs

abbrev pub member_has_names : WrittenMember → Bool
member_has_names (member.Port p) = is_name p.name && formals_have_names p.formals
member_has_names (member.Command c) = is_name c.name && formals_have_names c.formals
member_has_names (member.Event e) = is_name e.name && formals_have_names e.formals
member_has_names (member.Channel t) = is_name t.name
member_has_names (member.Param p) = is_name p.name
member_has_names (member.Running r) = is_name r.name
member_has_names _ = true

-- ---- positions of types, by their number

abbrev pub formals_lie : ℕ → List WrittenFormal → Bool
formals_lie types fs = list_all (λ (f : WrittenFormal). kind_lies types f.kind) fs

abbrev pub definition_lies : ℕ → WrittenPortDef → Bool
definition_lies types d = formals_lie types d.formals && if_some (kind_lies types) d.result

abbrev pub member_lies : ℕ → WrittenMember → Bool
member_lies types (member.Port p) = formals_lie types p.formals
member_lies types (member.Command c) = formals_lie types c.formals
member_lies types (member.Event e) = formals_lie types e.formals
member_lies types (member.Channel t) = kind_lies types t.kind
member_lies types (member.Param p) = kind_lies types p.kind
member_lies types _ = true

-- ---- definitions of ports

-- an internal port has no definition, and a special port that of its kind
abbrev pub DefinitionSuits : List WrittenPortDef → WrittenRole → Option ℕ → Type 0
DefinitionSuits definitions Internal of = of ≡ None
DefinitionSuits definitions (Special kind) of = (k : ℕ) (d : WrittenPortDef) → of ≡ Some k → slice_get definitions k ≡ Some d → d.name ≡ definition_of kind
DefinitionSuits definitions _ of = Unit {0}

abbrev pub HasItsDefinition : List WrittenPortDef → WrittenMember → Type 0
HasItsDefinition definitions (member.Port p) = DefinitionSuits definitions p.role p.of
HasItsDefinition definitions _ = Unit {0}

-- ---- instances of state machines

-- its machine is one of these, and has a body
abbrev pub RunsFitting : List Machine → WrittenMember → Type 0
RunsFitting machines (member.Running r) = (m : Machine) × (slice_get machines r.machine ≡ Some m) × (m.external ≡ false)
RunsFitting machines _ = Unit {0}

-- no two of a component have the same name
abbrev pub instances_differ : WrittenComponent → Bool
instances_differ w = texts_differ (map (λ (r : WrittenRunning). r.name) (flat_map running_in w.members))

-- ---- limits and formats

-- the numbers of limits are values of the channel's type
abbrev pub LimitsFit : List TypeDef → WrittenChannel → Type 0
LimitsFit types t = (k : ℕ) (l : WrittenLimit) (n : ℤ) → slice_get t.limits k ≡ Some l → l.value.number ≡ Some n → has_kind types t.kind (Int n) ≡ true

abbrev pub HasFittingLimits : List TypeDef → WrittenMember → Type 0
HasFittingLimits types (member.Channel t) = LimitsFit types t
HasFittingLimits types _ = Unit {0}

-- the fields of the format are for the parameters
abbrev pub FormatAgrees : List TypeDef → WrittenEvent → Type 0
FormatAgrees types e = (parts : List FormatPiece) → IsFormat e.format parts → agree types parts (formals_of e.formals) ≡ true

abbrev pub HasAgreeingFormat : List TypeDef → WrittenMember → Type 0
HasAgreeingFormat types (member.Event e) = FormatAgrees types e
HasAgreeingFormat types _ = Unit {0}

-- ---- values

-- a value that has a type and is no larger than one may be
abbrev pub IsGood : List TypeDef → Kind → Value → Type 0
IsGood types k v = (has_kind types k v ≡ true) × (is_of_size v ≡ true)

-- of what is written of components, and of the components that it comes to, among these machines
pub record AreReady (types : List TypeDef) (machines : List Machine) (ws : List WrittenType) (definitions : List WrittenPortDef) (interfaces : List WrittenInterface) (written : List WrittenComponent) (cs : List Component) : Type 0 where
  pub members_have_names : OfEachMember interfaces written (λ m. member_has_names m ≡ true)
  pub definitions_have_names : list_all (λ (d : WrittenPortDef). formals_have_names d.formals) definitions ≡ true
  pub definitions_are_qualified : list_all (λ (d : WrittenPortDef). is_qualified d.name) definitions ≡ true
  pub components_are_qualified : list_all (λ (w : WrittenComponent). is_qualified w.name) written ≡ true
  pub members_lie : OfEachMember interfaces written (λ m. member_lies (length types) m ≡ true)
  pub definitions_lie : list_all (definition_lies (length types)) definitions ≡ true
  pub ports_have_their_definitions : OfEachMember interfaces written (HasItsDefinition definitions)
  pub running_fit : OfEachMember interfaces written (RunsFitting machines)
  pub running_differ : list_all instances_differ written ≡ true
  pub limits_fit : OfEachMember interfaces written (HasFittingLimits types)
  pub formats_agree : OfEachMember interfaces written (HasAgreeingFormat types)
  pub converted_values_are_good : (v : Value) (k : Kind) (made : Value) → Converts ws v k made → IsGood types k made
  pub defaults_are_good : (k : Kind) (made : Value) → DefaultIs ws k made → IsGood types k made
  pub components_are_short : list_all component_is_short cs ≡ true
