-- Types, formal parameters and the way into a queue as a listing prints them. FPP Language Specification, "Type Names", "Formal
-- Parameter Lists" and "Component Definitions". The form of a listing is this profile's own.
use Rattle.std.specs.Prelude.{ℕ, cond, codes, decimal, List, [], ◌++◌, map, Option, None, Some, option_map, slice_get}
use Rattle.std.specs.Fmt.{signed_decimal}
use Rattle.fp_base.specs.Rendered.{joined}
use Rattle.fp_tables.specs.declared.kind.Kind.{Kind}
use Rattle.fp_tables.specs.declared.kind.Kind.TheVariants as kind
use Rattle.fp_tables.specs.declared.kind.Formal.{Formal}
use Rattle.fp_tables.specs.declared.kind.TypeDef.{TypeDef}
use Rattle.fp_tables.specs.declared.component.Full.TheVariants as full
use Rattle.fp_tables.specs.declared.component.Way.{Way}
use Rattle.fp_tables.specs.declared.component.Way.TheVariants as way
use Rattle.fp_tables.specs.Words.{full_word}
use Rattle.fp_logtext.specs.Names.{or_nothing}

-- the qualified name of a type, nothing where the position names none
abbrev pub type_name : List TypeDef → ℕ → List ℕ
type_name types k = or_nothing (option_map (λ (t : TypeDef). t.name) (slice_get types k))

-- a type, as it is used
abbrev pub kind_text : List TypeDef → Kind → List ℕ
kind_text types kind.U8 = codes "U8"
kind_text types kind.U16 = codes "U16"
kind_text types kind.U32 = codes "U32"
kind_text types kind.U64 = codes "U64"
kind_text types kind.I8 = codes "I8"
kind_text types kind.I16 = codes "I16"
kind_text types kind.I32 = codes "I32"
kind_text types kind.I64 = codes "I64"
kind_text types kind.Bool = codes "bool"
kind_text types (kind.Str size) = codes "string " ++ codes "size " ++ decimal size
kind_text types (kind.Named k) = type_name types k

abbrev pub formal_text : List TypeDef → Formal → List ℕ
formal_text types f = cond f.by_ref (codes "ref ") [] ++ f.name ++ codes ": " ++ kind_text types f.kind

-- formal parameters in parentheses, also where there are none
abbrev pub formals_text : List TypeDef → List Formal → List ℕ
formals_text types fs = codes "(" ++ joined (map (formal_text types) fs) ++ codes ")"

-- what a result adds
abbrev pub result_text : List TypeDef → Option Kind → List ℕ
result_text types None = []
result_text types (Some k) = codes " -> " ++ kind_text types k

-- the priority in the queue and what happens where it is full, of what goes through the queue
abbrev pub queue_text : Way → List ℕ
queue_text (way.Later priority f) = codes " priority " ++ signed_decimal priority ++ codes " " ++ full_word f
queue_text _ = []
