-- Types as they are used, and the definitions of arrays, structs, enums and aliases.
-- F Prime GDS JSON Dictionary Specification, "Type Descriptors" and "Type Definitions". This profile: no formats.
use Rattle.std.specs.Prelude.{ℕ, suc, Bool, true, false, codes, List, [], ◌∷◌, ◌++◌, map, length, Option, option_map, slice_get, unwrap_or}
use Rattle.std.specs.List.{enumerate_from}
use Rattle.fp_base.specs.declared.value.Value.{Value}
use Rattle.fp_tables.specs.Machines.{follow}
use Rattle.fp_tables.specs.Types.{form_at}
use Rattle.fp_tables.specs.declared.kind.Constant.{Constant}
use Rattle.fp_tables.specs.declared.kind.Field.{Field}
use Rattle.fp_tables.specs.declared.kind.Form.{Form}
use Rattle.fp_tables.specs.declared.kind.Form.TheVariants as form
use Rattle.fp_tables.specs.declared.kind.Kind.{Kind}
use Rattle.fp_tables.specs.declared.kind.Kind.TheVariants as kind
use Rattle.fp_tables.specs.declared.kind.TypeDef.{TypeDef}
use Rattle.fp_base.specs.Rendered.{number_of}
use Rattle.serde_json.specs.Data.{Data, boolean, string}
use Rattle.fp_dictionary.specs.Objects.{Entry, object_of, list_of, natural, annotation, optional}
use Rattle.fp_dictionary.specs.Values.{number_data, value_data}

abbrev pub integer : List ℕ → Bool → ℕ → Data
integer name signed bits =
    object_of ((codes "name", string name) ∷ (codes "kind", string (codes "integer")) ∷ (codes "size", natural bits) ∷ (codes "signed", boolean signed) ∷ [])

-- a truth value, or a string, by its size
abbrev pub sized : List ℕ → ℕ → Data
sized name size = object_of ((codes "name", string name) ∷ (codes "kind", string name) ∷ (codes "size", natural size) ∷ [])

-- a type of the model, by its qualified name
abbrev pub named : List ℕ → Data
named name = object_of ((codes "name", string name) ∷ (codes "kind", string (codes "qualifiedIdentifier")) ∷ [])

-- a constant of an enum
abbrev pub constant_entries : Constant → List Entry
constant_entries c = (codes "name", string c.name) ∷ (codes "value", number_data (number_of c.value)) ∷ annotation c.note

abbrev pub enumerated_data : Constant → Data
enumerated_data c = object_of (constant_entries c)

abbrev pub size_entries : Option ℕ → List Entry
size_entries size = optional (codes "size") natural size

abbrev pub default_entries : Value → List Entry
default_entries default = (codes "default", value_data default) ∷ []

module _ (types : List TypeDef) where
  abbrev pub type_name : ℕ → List ℕ
  type_name k = unwrap_or (option_map (λ (d : TypeDef). d.name) (slice_get types k)) []

  -- a type, as it is used
  abbrev pub descriptor : Kind → Data
  descriptor kind.U8 = integer (codes "U8") false 8
  descriptor kind.U16 = integer (codes "U16") false 16
  descriptor kind.U32 = integer (codes "U32") false 32
  descriptor kind.U64 = integer (codes "U64") false 64
  descriptor kind.I8 = integer (codes "I8") true 8
  descriptor kind.I16 = integer (codes "I16") true 16
  descriptor kind.I32 = integer (codes "I32") true 32
  descriptor kind.I64 = integer (codes "I64") true 64
  descriptor kind.Bool = sized (codes "bool") 8
  descriptor (kind.Str size) = sized (codes "string") size
  descriptor (kind.Named k) = named (type_name k)

  -- the type behind the aliases, of which at most so many stand one behind another
  abbrev pub underlying_by : ℕ → Kind → Kind
  underlying_by (suc n) (kind.Named k) = follow (underlying_by n) (kind.Named k) (form_at types k)
  underlying_by n k = k

  abbrev pub underlying : Kind → Kind
  underlying k = underlying_by (suc (length types)) k

  -- a member of a struct, with its position
  abbrev pub member_entries : ℕ × Field → List Entry
  member_entries p = (codes "type", descriptor p.1.kind) ∷ (codes "index", natural p.0) ∷ size_entries p.1.size ++ annotation p.1.note

  abbrev pub member_data : ℕ × Field → Data
  member_data p = object_of (member_entries p)

  abbrev pub member_entry : ℕ × Field → Entry
  member_entry p = (p.1.name, member_data p)

  abbrev pub members_data : List Field → Data
  members_data fields = object_of (map member_entry (enumerate_from 0 fields))

  abbrev pub alias_entries : Kind → List Entry
  alias_entries target = (codes "kind", string (codes "alias")) ∷ (codes "type", descriptor target) ∷ (codes "underlyingType", descriptor (underlying target)) ∷ []

  abbrev pub array_entries : ℕ → Kind → List Entry
  array_entries size element = (codes "kind", string (codes "array")) ∷ (codes "size", natural size) ∷ (codes "elementType", descriptor element) ∷ []

  abbrev pub struct_entries : List Field → List Entry
  struct_entries fields = (codes "kind", string (codes "struct")) ∷ (codes "members", members_data fields) ∷ []

  abbrev pub enum_entries : Kind → List Constant → List Entry
  enum_entries repr constants =
      (codes "kind", string (codes "enum")) ∷ (codes "representationType", descriptor repr) ∷ (codes "enumeratedConstants", list_of (map enumerated_data constants)) ∷ []

  -- what a type has by its form, beside its name
  abbrev pub form_entries : TypeDef → Form → List Entry
  form_entries d form.Abstract = []
  form_entries d (form.Alias target) = alias_entries target
  form_entries d (form.Array size element format) = array_entries size element ++ default_entries d.default
  form_entries d (form.Struct fields) = struct_entries fields ++ default_entries d.default
  form_entries d (form.Enum repr constants) = enum_entries repr constants ++ default_entries d.default

  abbrev pub type_entries : TypeDef → List Entry
  type_entries d = (codes "qualifiedName", string d.name) ∷ form_entries d d.form ++ annotation d.note

  abbrev pub type_data : TypeDef → Data
  type_data d = object_of (type_entries d)
