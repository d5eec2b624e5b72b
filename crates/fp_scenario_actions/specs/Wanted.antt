-- What a type wants of a JSON value, aliases being their targets. FPP Language Specification, "Types", "Default Values".
use Rattle.std.specs.Prelude.{ℕ, ℤ, List, map, find, Option, Some, None, option_map, unwrap_or, slice_get}
use Rattle.std.specs.Str.{bytes_eq}
use Rattle.fp_base.specs.declared.value.Value.{Value}
use Rattle.fp_base.specs.declared.value.MemberValue.{MemberValue}
use Rattle.fp_tables.specs.Machines.{target}
use Rattle.fp_tables.specs.Types as types
use Rattle.fp_tables.specs.declared.kind.Kind.{Kind}
use Rattle.fp_tables.specs.declared.kind.Kind.TheVariants as kind
use Rattle.fp_tables.specs.declared.kind.Field.{Field}
use Rattle.fp_tables.specs.declared.kind.Constant.{Constant}
use Rattle.fp_tables.specs.declared.kind.TypeDef.{TypeDef}
use Rattle.fp_types.specs.Converting.{value_named}

-- an integer from one number to another, a truth value, a text, an array, a struct with its default, a constant, or the one value of an abstract type
pub data Wanted : Type 0 where
  integer : ℤ → ℤ → Wanted
  truth : Wanted
  words : Wanted
  array : ℕ → Kind → Wanted
  struct : List Field → Value → Wanted
  constants : List Constant → Wanted
  opaque : Wanted
  nothing : Wanted

-- the default of a type that the model defines
abbrev pub default_named : List TypeDef → Kind → Option Value
default_named ts (kind.Named k) = option_map (λ (d : TypeDef). d.default) (slice_get ts k)
default_named ts _ = None

-- an alias has its target's
abbrev pub default_of : List TypeDef → Kind → Option Value
default_of ts k = default_named ts (target ts k)

abbrev pub struct_with : Option Value → List Field → Wanted
struct_with (Some default) fields = struct fields default
struct_with None fields = nothing

abbrev pub with_default : Option Value → types.Shape → Wanted
with_default default (types.integer low high) = integer low high
with_default default types.truth = truth
with_default default types.words = words
with_default default (types.array size k) = array size k
with_default default (types.struct fields) = struct_with default fields
with_default default (types.constants cs) = constants cs
with_default default types.opaque = opaque
with_default default types.nothing = nothing

abbrev pub wanted : List TypeDef → Kind → Wanted
wanted ts k = with_default (default_of ts k) (types.shape ts k)

-- a member with a size is an array
abbrev pub member : List TypeDef → Field → Wanted
member ts f = with_default (default_of ts f.kind) (types.member_shape ts f)

abbrev pub constant_named : List Constant → List ℕ → Option Constant
constant_named cs name = find (λ (x : Constant). bytes_eq x.name name) cs

-- each part with the value that is given for its name, or as it is where none is given
abbrev pub with_given : List MemberValue → List MemberValue → List MemberValue
with_given given parts = map (λ (p : MemberValue). record { name = p.name; value = unwrap_or (value_named given p.name) p.value }) parts
