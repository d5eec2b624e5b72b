-- The grammar of definitions. FPP Language Specification, "Definitions", "Type Names" and "Formal Parameter Lists". This profile: no
-- annotation but at elements of lists; `type` begins an abstract type or an alias, which what follows the name tells apart.
use Rattle.std.specs.Prelude.{ℕ, Bool, true, false, ◌==◌, cond, Option, Some, None, List, [], ◌∷◌}
use Rattle.fp_base.specs.declared.place.Span.{Span}
use Rattle.fp_lexer.specs.Words.{reserved, mark}
use Rattle.fp_lexer.specs.declared.token.Word.{Word}
use Rattle.fp_lexer.specs.declared.token.Word.TheVariants as word
use Rattle.fp_lexer.specs.declared.token.Token.{Token}
use Rattle.fp_tree.specs.declared.name.Name.{Name}
use Rattle.fp_tree.specs.declared.name.Qual.{Qual}
use Rattle.fp_tree.specs.declared.name.Str.{Str}
use Rattle.fp_tree.specs.declared.expression.Expr.{Expr}
use Rattle.fp_tree.specs.declared.type_name.TypeName.{TypeName}
use Rattle.fp_tree.specs.declared.type_name.TypeForm.{TypeForm}
use Rattle.fp_tree.specs.declared.type_name.TypeForm.TheVariants as type
use Rattle.fp_tree.specs.declared.part.Field.{Field}
use Rattle.fp_tree.specs.declared.part.EnumConst.{EnumConst}
use Rattle.fp_tree.specs.declared.part.Formal.{Formal}
use Rattle.fp_tree.specs.declared.definition.Def.{Def}
use Rattle.fp_tree.specs.declared.definition.Def.TheVariants as def
use Rattle.fp_grammar.specs.Grammar.{Grammar, after, before}
use Rattle.fp_grammar.specs.Grammar.Grammar.{one_of, seq, map, alt, optional}
use Rattle.fp_grammar.specs.Seal.{seal}
use Rattle.fp_parse_pieces.specs.Kinds.{kind, k_mark, k_reserved, k_name, k_open, k_close, k_open_bracket, k_close_bracket, k_open_brace, k_close_brace, k_dot, k_times, k_over, k_plus, k_minus, k_equals}
use Rattle.fp_parse_pieces.specs.Words.{between, at, name, qual, literal_string}
use Rattle.fp_parse_pieces.specs.Lists.{some_of, commas, with_noted, or_none}
use Rattle.fp_parse_defs.specs.Language.{expression}

-- the marks -> and :
abbrev pub k_arrow : ℕ
k_arrow = k_mark (mark "->")

abbrev pub k_colon : ℕ
k_colon = k_mark (mark ":")

-- the reserved words of definitions
abbrev pub k_array : ℕ
k_array = k_reserved (reserved "array")

abbrev pub k_constant : ℕ
k_constant = k_reserved (reserved "constant")

abbrev pub k_default : ℕ
k_default = k_reserved (reserved "default")

abbrev pub k_enum : ℕ
k_enum = k_reserved (reserved "enum")

abbrev pub k_format : ℕ
k_format = k_reserved (reserved "format")

abbrev pub k_port : ℕ
k_port = k_reserved (reserved "port")

abbrev pub k_ref : ℕ
k_ref = k_reserved (reserved "ref")

abbrev pub k_size : ℕ
k_size = k_reserved (reserved "size")

abbrev pub k_string_word : ℕ
k_string_word = k_reserved (reserved "string")

abbrev pub k_struct : ℕ
k_struct = k_reserved (reserved "struct")

abbrev pub k_type : ℕ
k_type = k_reserved (reserved "type")

-- 'U8' | 'U16' | 'U32' | 'U64'
abbrev pub unsigned_form : Word → TypeForm
unsigned_form (word.Reserved r) = cond (r == reserved "U8") type.U8 (cond (r == reserved "U16") type.U16 (cond (r == reserved "U32") type.U32 type.U64))
unsigned_form _ = type.U64

-- 'I8' | 'I16' | 'I32' | 'I64'
abbrev pub signed_form : Word → TypeForm
signed_form (word.Reserved r) = cond (r == reserved "I8") type.I8 (cond (r == reserved "I16") type.I16 (cond (r == reserved "I32") type.I32 type.I64))
signed_form _ = type.I64

-- 'F32' | 'F64' | 'bool'
abbrev pub other_form : Word → TypeForm
other_form (word.Reserved r) = cond (r == reserved "F32") type.F32 (cond (r == reserved "F64") type.F64 type.Bool)
other_form _ = type.Bool

abbrev pub unsigned : Grammar Token TypeName
unsigned = map (λ t. record { form = unsigned_form t.what; at = t.at }) (one_of (k_reserved (reserved "U8") ∷ k_reserved (reserved "U16") ∷ k_reserved (reserved "U32") ∷ k_reserved (reserved "U64") ∷ []))

abbrev pub signed : Grammar Token TypeName
signed = map (λ t. record { form = signed_form t.what; at = t.at }) (one_of (k_reserved (reserved "I8") ∷ k_reserved (reserved "I16") ∷ k_reserved (reserved "I32") ∷ k_reserved (reserved "I64") ∷ []))

abbrev pub other : Grammar Token TypeName
other = map (λ t. record { form = other_form t.what; at = t.at }) (one_of (k_reserved (reserved "F32") ∷ k_reserved (reserved "F64") ∷ k_reserved (reserved "bool") ∷ []))

abbrev pub signed_or_other : Grammar Token TypeName
signed_or_other = alt signed other

abbrev pub plain : Grammar Token TypeName
plain = alt unsigned signed_or_other

-- where what may follow ends
abbrev pub expr_or : Span → Option Expr → Span
expr_or span None = span
expr_or span (Some e) = e.at

abbrev pub str_or : Span → Option Str → Span
str_or span None = span
str_or span (Some s) = s.at

abbrev pub type_or : Span → Option TypeName → Span
type_or span None = span
type_or span (Some t) = t.at

-- what begins a type's name
abbrev pub type_begins : List ℕ
type_begins = k_string_word ∷ k_name ∷ k_reserved (reserved "U8") ∷ k_reserved (reserved "U16") ∷ k_reserved (reserved "U32") ∷ k_reserved (reserved "U64") ∷ k_reserved (reserved "I8") ∷ k_reserved (reserved "I16") ∷ k_reserved (reserved "I32") ∷ k_reserved (reserved "I64") ∷ k_reserved (reserved "F32") ∷ k_reserved (reserved "F64") ∷ k_reserved (reserved "bool") ∷ []

-- what an expression goes on with
abbrev pub expr_goes_on : List ℕ
expr_goes_on = k_dot ∷ k_times ∷ k_over ∷ k_plus ∷ k_minus ∷ []

abbrev pub made_string : Span × Option Expr → TypeName
made_string p = record { form = type.Text p.1; at = between p.0 (expr_or p.0 p.1) }

-- ('size' Expr)?
abbrev pub size_of_string : ℕ → Grammar Token (Option Expr)
size_of_string depth = optional (after k_size (expression depth))

-- 'string' ('size' Expr)?
abbrev pub string_type : ℕ → Grammar Token TypeName
string_type depth = map made_string (seq (at k_string_word) (size_of_string depth))

abbrev pub made_use : Qual → TypeName
made_use q = record { form = type.Use q; at = q.at }

abbrev pub used_type : Grammar Token TypeName
used_type = map made_use qual

abbrev pub string_or_use : ℕ → Grammar Token TypeName
string_or_use depth = alt (string_type depth) used_type

-- TypeName = 'U8' | .. | 'bool' | 'string' ('size' Expr)? | Qual
abbrev pub type_body : ℕ → Grammar Token TypeName
type_body depth = alt plain (string_or_use depth)

abbrev pub type_name : ℕ → Grammar Token TypeName
type_name depth = seal kind (type_body depth) type_begins (k_size ∷ expr_goes_on)

-- ('default' Expr)?
abbrev pub default_part : ℕ → Grammar Token (Option Expr)
default_part depth = optional (after k_default (expression depth))

-- ('format' Str)?
abbrev pub format_part : Grammar Token (Option Str)
format_part = optional (after k_format literal_string)

-- ('=' Expr)?
abbrev pub value_part : ℕ → Grammar Token (Option Expr)
value_part depth = optional (after k_equals (expression depth))

-- Expr ']'
abbrev pub sized : ℕ → Grammar Token Expr
sized depth = before (expression depth) k_close_bracket

-- ('[' Expr ']')?
abbrev pub size_part : ℕ → Grammar Token (Option Expr)
size_part depth = optional (after k_open_bracket (sized depth))

abbrev pub made_constant : Span × (Name × Expr) → Def
made_constant (at, (name, value)) = def.Constant (record { name = name; value = value; at = between at value.at; note = [] })

-- Constant = 'constant' name '=' Expr
abbrev pub constant : ℕ → Grammar Token Def
constant depth = map made_constant (seq (at k_constant) (seq name (after k_equals (expression depth))))

abbrev pub made_type : Span × (Name × Option TypeName) → Def
made_type (at, (name, None)) = def.Abstract (record { name = name; at = between at name.at; note = [] })
made_type (at, (name, Some target)) = def.Alias (record { name = name; target = target; at = between at target.at; note = [] })

-- ('=' TypeName)?
abbrev pub target_part : ℕ → Grammar Token (Option TypeName)
target_part depth = optional (after k_equals (type_name depth))

-- Abstract = 'type' name
-- Alias = 'type' name '=' TypeName
abbrev pub abstract_or_alias : ℕ → Grammar Token Def
abstract_or_alias depth = map made_type (seq (at k_type) (seq name (target_part depth)))

abbrev pub made_array : Span × (Name × (Expr × (TypeName × (Option Expr × Option Str)))) → Def
made_array (at, (name, (size, (element, (default, format))))) =
    def.Array (record { name = name; size = size; element = element; default = default; format = format; at = between at (str_or (expr_or element.at default) format); note = [] })

-- Array = 'array' name '=' '[' Expr ']' TypeName ('default' Expr)? ('format' Str)?
abbrev pub array : ℕ → Grammar Token Def
array depth =
    map made_array (seq (at k_array) (seq name (after k_equals (after k_open_bracket
    (seq (sized depth) (seq (type_name depth) (seq (default_part depth) format_part)))))))

abbrev pub made_field : Name × (Option Expr × (TypeName × Option Str)) → Field
made_field (name, (size, (of, format))) = record { name = name; size = size; of = of; format = format; at = between name.at (str_or of.at format); note = [] }

-- Field = name ':' ('[' Expr ']')? TypeName ('format' Str)?
abbrev pub field : ℕ → Grammar Token Field
field depth = map made_field (seq name (after k_colon (seq (size_part depth) (seq (type_name depth) format_part))))

-- an annotation of its own
abbrev pub field_with_note : Field → List ℕ → Field
field_with_note f note = record { name = f.name; size = f.size; of = f.of; format = f.format; at = f.at; note = note }

abbrev pub with_field : List Field → Field → List (List ℕ) → List Field
with_field = with_noted field_with_note

-- Field+,
abbrev pub some_fields : ℕ → Grammar Token (List Field)
some_fields depth = some_of commas with_field [] (field depth)

-- Field*,
abbrev pub fields : ℕ → Grammar Token (List Field)
fields depth = map or_none (optional (some_fields depth))

abbrev pub made_struct : Span × (Name × (List Field × (Span × Option Expr))) → Def
made_struct (at, (name, (fields, (closing, default)))) = def.Struct (record { name = name; fields = fields; default = default; at = between at (expr_or closing default); note = [] })

-- Struct = 'struct' name '{' Field*, '}' ('default' Expr)?
abbrev pub structure : ℕ → Grammar Token Def
structure depth = map made_struct (seq (at k_struct) (seq name (after k_open_brace (seq (fields depth) (seq (at k_close_brace) (default_part depth))))))

abbrev pub made_enum_const : Name × Option Expr → EnumConst
made_enum_const (name, value) = record { name = name; value = value; at = between name.at (expr_or name.at value); note = [] }

-- EnumConst = name ('=' Expr)?
abbrev pub enum_const : ℕ → Grammar Token EnumConst
enum_const depth = map made_enum_const (seq name (value_part depth))

-- an annotation of its own
abbrev pub enum_const_with_note : EnumConst → List ℕ → EnumConst
enum_const_with_note c note = record { name = c.name; value = c.value; at = c.at; note = note }

abbrev pub with_enum_const : List EnumConst → EnumConst → List (List ℕ) → List EnumConst
with_enum_const = with_noted enum_const_with_note

-- EnumConst+,
abbrev pub enum_consts : ℕ → Grammar Token (List EnumConst)
enum_consts depth = some_of commas with_enum_const [] (enum_const depth)

-- (':' TypeName)?
abbrev pub repr_part : ℕ → Grammar Token (Option TypeName)
repr_part depth = optional (after k_colon (type_name depth))

abbrev pub made_enum : Span × (Name × (Option TypeName × (List EnumConst × (Span × Option Expr)))) → Def
made_enum (at, (name, (repr, (constants, (closing, default))))) = def.Enum (record { name = name; repr = repr; constants = constants; default = default; at = between at (expr_or closing default); note = [] })

-- Enum = 'enum' name (':' TypeName)? '{' EnumConst+, '}' ('default' Expr)?
abbrev pub enumeration : ℕ → Grammar Token Def
enumeration depth = map made_enum (seq (at k_enum) (seq name (seq (repr_part depth) (after k_open_brace (seq (enum_consts depth) (seq (at k_close_brace) (default_part depth)))))))

abbrev pub made_formal : Option Span × (Name × TypeName) → Formal
made_formal (None, (name, of)) = record { by_ref = false; name = name; of = of; at = between name.at of.at; note = [] }
made_formal (Some ref, (name, of)) = record { by_ref = true; name = name; of = of; at = between ref of.at; note = [] }

-- 'ref'?
abbrev pub ref_part : Grammar Token (Option Span)
ref_part = optional (at k_ref)

-- Formal = 'ref'? name ':' TypeName
abbrev pub formal : ℕ → Grammar Token Formal
formal depth = map made_formal (seq ref_part (seq name (after k_colon (type_name depth))))

-- an annotation of its own
abbrev pub formal_with_note : Formal → List ℕ → Formal
formal_with_note f note = record { by_ref = f.by_ref; name = f.name; of = f.of; at = f.at; note = note }

abbrev pub with_formal : List Formal → Formal → List (List ℕ) → List Formal
with_formal = with_noted formal_with_note

-- Formal+,
abbrev pub some_formals : ℕ → Grammar Token (List Formal)
some_formals depth = some_of commas with_formal [] (formal depth)

-- Formal*,
abbrev pub formal_list : ℕ → Grammar Token (List Formal)
formal_list depth = map or_none (optional (some_formals depth))

-- Formals = '(' Formal*, ')'
abbrev pub formals : ℕ → Grammar Token (List Formal × Span)
formals depth = seq (formal_list depth) (at k_close)

abbrev pub formals_part : ℕ → Grammar Token (Option (List Formal × Span))
formals_part depth = optional (after k_open (formals depth))

-- ('->' TypeName)?
abbrev pub result_part : ℕ → Grammar Token (Option TypeName)
result_part depth = optional (after k_arrow (type_name depth))

abbrev pub made_port : Span × (Name × (Option (List Formal × Span) × Option TypeName)) → Def
made_port (at, (name, (None, answer))) = def.Port (record { name = name; formals = []; result = answer; at = between at (type_or name.at answer); note = [] })
made_port (at, (name, (Some (formals, closing), answer))) = def.Port (record { name = name; formals = formals; result = answer; at = between at (type_or closing answer); note = [] })

-- Port = 'port' name Formals? ('->' TypeName)?
abbrev pub port : ℕ → Grammar Token Def
port depth = map made_port (seq (at k_port) (seq name (seq (formals_part depth) (result_part depth))))

-- Def = Constant | Abstract | Alias | Array | Struct | Enum | Port
abbrev pub definition : ℕ → Grammar Token Def
definition depth = alt (constant depth) (alt (abstract_or_alias depth) (alt (array depth) (alt (structure depth) (alt (enumeration depth) (port depth)))))

-- a definition with this annotation
abbrev pub noted_definition : Def → List ℕ → Def
noted_definition (def.Constant d) note = def.Constant (record { name = d.name; value = d.value; at = d.at; note = note })
noted_definition (def.Abstract d) note = def.Abstract (record { name = d.name; at = d.at; note = note })
noted_definition (def.Alias d) note = def.Alias (record { name = d.name; target = d.target; at = d.at; note = note })
noted_definition (def.Array d) note = def.Array (record { name = d.name; size = d.size; element = d.element; default = d.default; format = d.format; at = d.at; note = note })
noted_definition (def.Struct d) note = def.Struct (record { name = d.name; fields = d.fields; default = d.default; at = d.at; note = note })
noted_definition (def.Enum d) note = def.Enum (record { name = d.name; repr = d.repr; constants = d.constants; default = d.default; at = d.at; note = note })
noted_definition (def.Port d) note = def.Port (record { name = d.name; formals = d.formals; result = d.result; at = d.at; note = note })
