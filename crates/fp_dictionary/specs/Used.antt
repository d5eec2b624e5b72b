-- The types that the commands, parameters, events and telemetry channels of a topology's instances use, directly or through other types.
-- F Prime GDS JSON Dictionary Specification, "Type Definitions". This profile: they stand by their qualified names, as bytes.
use Rattle.std.specs.Prelude.{◌≡◌, ℕ, ◌<◌, Bool, true, false, List, ◌++◌, flat_map, map, option_map, option_to_list, slice_get, Some, unwrap_or, []}
use Rattle.std.specs.List.{list_any}
use Rattle.std.specs.Cmp.Lexicographic.{slice_cmp}
use Rattle.std.specs.Ordering.{nat_cmp, is_lt}
use Rattle.fp_tables.specs.Positions.{component_of}
use Rattle.fp_tables.specs.Types.{form_at, is_named, is_use}
use Rattle.fp_tables.specs.declared.kind.Formal.{Formal}
use Rattle.fp_tables.specs.declared.kind.Form.{Form}
use Rattle.fp_tables.specs.declared.kind.Form.TheVariants as form
use Rattle.fp_tables.specs.declared.kind.Kind.{Kind}
use Rattle.fp_tables.specs.declared.kind.TypeDef.{TypeDef}
use Rattle.fp_tables.specs.declared.component.Channel.{Channel}
use Rattle.fp_tables.specs.declared.component.Command.{Command}
use Rattle.fp_tables.specs.declared.component.Component.{Component}
use Rattle.fp_tables.specs.declared.component.Event.{Event}
use Rattle.fp_tables.specs.declared.component.Param.{Param}
use Rattle.fp_tables.specs.declared.model.Model.{Model}
use Rattle.fp_tables.specs.declared.topology.Topology.{Topology}

abbrev pub kinds_of_formals : List Formal → List Kind
kinds_of_formals fs = map (λ (f : Formal). f.kind) fs

-- the types that stand in what a dictionary lists of a component
abbrev pub kinds_of_component : Component → List Kind
kinds_of_component c =
    flat_map (λ (x : Command). kinds_of_formals x.formals) c.commands ++ map (λ (p : Param). p.kind) c.params
    ++ flat_map (λ (e : Event). kinds_of_formals e.formals) c.events ++ map (λ (t : Channel). t.kind) c.channels

-- of the instance at a position
abbrev pub kinds_of_instance : Model → ℕ → List Kind
kinds_of_instance m i = flat_map kinds_of_component (option_to_list (component_of m i))

abbrev pub kinds_listed : Model → Topology → List Kind
kinds_listed m o = flat_map (kinds_of_instance m) o.instances

-- used by what is listed, or by a type that is used
pub data IsUsed (m : Model) (o : Topology) : ℕ → Type 0 where
  named : (k : ℕ) → list_any (is_named k) (kinds_listed m o) ≡ true → IsUsed m o k
  through : (j k : ℕ) → IsUsed m o j → is_use m.types j k → IsUsed m o k

-- an array, a struct, an enum or an alias
abbrev pub is_described : Form → Bool
is_described form.Abstract = false
is_described (form.Alias k) = true
is_described (form.Array size element format) = true
is_described (form.Struct fields) = true
is_described (form.Enum repr constants) = true

abbrev pub IsDescribed : Model → Topology → ℕ → Type 0
IsDescribed m o k = IsUsed m o k × (f : Form) × (form_at m.types k ≡ Some f) × (is_described f ≡ true)

abbrev pub type_name : List TypeDef → ℕ → List ℕ
type_name types k = unwrap_or (option_map (λ (d : TypeDef). d.name) (slice_get types k)) []

-- each of them once, none behind one of a greater name
pub record AreUsedTypes (m : Model) (o : Topology) (ks : List ℕ) : Type 0 where
  pub each : (i k : ℕ) → slice_get ks i ≡ Some k → IsDescribed m o k
  pub all : (k : ℕ) → IsDescribed m o k → (i : ℕ) × (slice_get ks i ≡ Some k)
  pub once : (i j k : ℕ) → slice_get ks i ≡ Some k → slice_get ks j ≡ Some k → i ≡ j
  pub sorted : (i j k l : ℕ) → i < j → slice_get ks i ≡ Some k → slice_get ks j ≡ Some l → is_lt (slice_cmp nat_cmp (type_name m.types l) (type_name m.types k)) ≡ false
