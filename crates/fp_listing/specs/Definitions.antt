-- Constants, types and ports as a listing prints them, a line each. FPP Language Specification, "Constant Definitions", "Abstract Type
-- Definitions", "Alias Definitions", "Array Definitions", "Struct Definitions", "Enum Definitions" and "Port Definitions".
use Rattle.std.specs.Prelude.{ℕ, codes, decimal, List, [], ◌∷◌, ◌++◌, map, Option, None, Some}
use Rattle.std.specs.Fmt.{signed_decimal}
use Rattle.fp_base.specs.Rendered.{joined, value_text, named_text, number_of}
use Rattle.fp_tables.specs.declared.kind.Constant.{Constant}
use Rattle.fp_tables.specs.declared.kind.Field.{Field}
use Rattle.fp_tables.specs.declared.kind.Form.{Form}
use Rattle.fp_tables.specs.declared.kind.Form.TheVariants as form
use Rattle.fp_tables.specs.declared.kind.PortDef.{PortDef}
use Rattle.fp_tables.specs.declared.kind.TypeDef.{TypeDef}
use Rattle.fp_listing.specs.Kinds.{kind_text, formals_text, result_text}

abbrev pub constant_line : Constant → List ℕ
constant_line c = codes "constant " ++ named_text c.name (value_text c.value) ++ codes "\n"

-- a constant of an enumeration, with its number
abbrev pub constant_text : Constant → List ℕ
constant_text c = named_text c.name (signed_decimal (number_of c.value))

-- a size in brackets, before what there are so many of
abbrev pub size_text : ℕ → List ℕ
size_text n = codes "[" ++ decimal n ++ codes "] "

abbrev pub field_size : Option ℕ → List ℕ
field_size None = []
field_size (Some n) = size_text n

abbrev pub field_text : List TypeDef → Field → List ℕ
field_text types f = f.name ++ codes ": " ++ field_size f.size ++ kind_text types f.kind

-- texts in braces, where there are none a blank alone
abbrev pub braced : List (List ℕ) → List ℕ
braced [] = codes "{ }"
braced (s ∷ ss) = codes "{ " ++ joined (s ∷ ss) ++ codes " }"

-- the word before the name of a type
abbrev pub form_word : Form → List ℕ
form_word form.Abstract = codes "type "
form_word (form.Alias k) = codes "type "
form_word (form.Array size element format) = codes "array "
form_word (form.Struct fields) = codes "struct "
form_word (form.Enum repr constants) = codes "enum "

abbrev pub written_default : TypeDef → List ℕ
written_default t = codes " default " ++ value_text t.default

-- the default, of a type that has a form of its own
abbrev pub default_text : TypeDef → Form → List ℕ
default_text t form.Abstract = []
default_text t (form.Alias k) = []
default_text t _ = written_default t

module _ (types : List TypeDef) where
  -- the form behind the name
  abbrev pub form_text : Form → List ℕ
  form_text form.Abstract = []
  form_text (form.Alias k) = codes " = " ++ kind_text types k
  form_text (form.Array size element format) = codes " = " ++ size_text size ++ kind_text types element
  form_text (form.Struct fields) = codes " " ++ braced (map (field_text types) fields)
  form_text (form.Enum repr constants) = codes ": " ++ kind_text types repr ++ codes " " ++ braced (map constant_text constants)

  abbrev pub type_line : TypeDef → List ℕ
  type_line t = form_word t.form ++ t.name ++ form_text t.form ++ default_text t t.form ++ codes "\n"

  abbrev pub port_line : PortDef → List ℕ
  port_line p = codes "port " ++ p.name ++ formals_text types p.formals ++ result_text types p.result ++ codes "\n"
