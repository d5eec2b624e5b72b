-- The grammar of definitions gives enumerations with constants.
use Rattle.std.proofs.Common.{◌≡◌, ℕ, List, [], ◌∷◌, ◌++◌, Option, Some, None}
use Rattle.fp_base.specs.declared.place.Span.{Span}
use Rattle.fp_tree.specs.declared.name.Name.{Name}
use Rattle.fp_tree.specs.declared.name.Str.{Str}
use Rattle.fp_tree.specs.declared.expression.Expr.{Expr}
use Rattle.fp_tree.specs.declared.type_name.TypeName.{TypeName}
use Rattle.fp_tree.specs.declared.part.Field.{Field}
use Rattle.fp_tree.specs.declared.part.EnumConst.{EnumConst}
use Rattle.fp_tree.specs.declared.part.Formal.{Formal}
use Rattle.fp_tree.specs.declared.definition.Def.{Def}
use Rattle.fp_parse_pieces.specs.Kinds.{kind, k_open_brace}
use Rattle.fp_parse_pieces.specs.Lists.{ListPiece, annotated, gathered}
use Rattle.fp_parse_pieces.specs.Lists.ListPiece.{element, separator}
use Rattle.fp_parse_defs.specs.Definitions.{made_constant, made_type, made_array, made_struct, enum_const, with_enum_const, enum_consts, made_enum, enumeration, made_port, definition, noted_definition}
use Rattle.fp_places.proofs.Preserving.{gives_anything, gives_map, gives_seq, gives_alt, gives_after}
use Rattle.fp_places.proofs.Depths.{Yields}
use Rattle.fp_source_types.specs.Listed.{HasConstants}

-- ---- lists of constants

abbrev HasSome : List EnumConst → Type 0
HasSome cs = cs ≡ [] → ⊥

push_some : (cs : List EnumConst) (c : EnumConst) (lines : List (List ℕ)) → with_enum_const cs c lines ≡ [] → ⊥
push_some [] c lines e = cc
push_some (d ∷ cs) c lines e = cc

gathered_some : (cs : List EnumConst) (pieces : List (ListPiece EnumConst)) → (cs ≡ [] → ⊥) → gathered with_enum_const cs pieces ≡ [] → ⊥
gathered_some cs [] some = some
gathered_some cs (separator lines ∷ pieces) some = gathered_some cs pieces some
gathered_some cs (element x lines ∷ []) some = push_some cs x lines
gathered_some cs (element x lines ∷ separator more ∷ pieces) some = gathered_some (with_enum_const cs x (lines ++ more)) pieces (push_some cs x (lines ++ more))
gathered_some cs (element x lines ∷ element y more ∷ pieces) some = gathered_some (with_enum_const cs x lines) (element y more ∷ pieces) (push_some cs x lines)

abbrev IsElement : ListPiece EnumConst → Type 0
IsElement (element x lines) = Unit {0}
IsElement (separator lines) = ⊥

first_some : (piece : ListPiece EnumConst) (pieces : List (ListPiece EnumConst)) → IsElement piece → gathered with_enum_const [] (piece ∷ pieces) ≡ [] → ⊥
first_some (separator lines) pieces is = absurd is
first_some (element x lines) [] is = push_some [] x lines
first_some (element x lines) (separator more ∷ pieces) is = gathered_some (with_enum_const [] x (lines ++ more)) pieces (push_some [] x (lines ++ more))
first_some (element x lines) (element y more ∷ pieces) is = gathered_some (with_enum_const [] x lines) (element y more ∷ pieces) (push_some [] x lines)

pieces_yield : (depth : ℕ) → Yields (annotated (enum_const depth)) IsElement
pieces_yield depth = gives_map IsElement (λ p. element p.0 p.1) (λ p h. tt) gives_anything

constants_yield : (depth : ℕ) → Yields (enum_consts depth) HasSome
constants_yield depth = gives_map HasSome (λ p. gathered with_enum_const [] (p.0 ∷ p.1)) (λ p h. first_some p.0 p.1 h.0) (gives_seq (pieces_yield depth) gives_anything)

-- ---- definitions

-- in any annotation
abbrev pub Noted : Def → Type 0
Noted d = (note : List ℕ) → HasConstants (noted_definition d note)

constant_noted : (p : Span × (Name × Expr)) → Unit {0} → Noted (made_constant p)
constant_noted (at, (name, value)) h note = tt

type_noted : (p : Span × (Name × Option TypeName)) → Unit {0} → Noted (made_type p)
type_noted (at, (name, None)) h note = tt
type_noted (at, (name, Some target)) h note = tt

array_noted : (p : Span × (Name × (Expr × (TypeName × (Option Expr × Option Str))))) → Unit {0} → Noted (made_array p)
array_noted (at, (name, (size, (kind, (default, format))))) h note = tt

struct_noted : (p : Span × (Name × (List Field × (Span × Option Expr)))) → Unit {0} → Noted (made_struct p)
struct_noted (at, (name, (fields, (closing, default)))) h note = tt

enum_noted : (p : Span × (Name × (Option TypeName × (List EnumConst × (Span × Option Expr)))))
    → Unit {0} × (Unit {0} × (Unit {0} × (HasSome p.1.1.1.0 × Unit {0}))) → Noted (made_enum p)
enum_noted (at, (name, (repr, (constants, (closing, default))))) h note = h.1.1.1.0

port_noted : (p : Span × (Name × (Option (List Formal × Span) × Option TypeName))) → Unit {0} → Noted (made_port p)
port_noted (at, (name, (None, answer))) h note = tt
port_noted (at, (name, (Some (formals, closing), answer))) h note = tt

enum_yields : (depth : ℕ) → Yields (enumeration depth) Noted
enum_yields depth =
    gives_map Noted made_enum enum_noted
    (gives_seq gives_anything (gives_seq gives_anything (gives_seq gives_anything (gives_after k_open_brace (gives_seq (constants_yield depth) gives_anything)))))

pub definition_yields : (depth : ℕ) → Yields (definition depth) Noted
definition_yields depth =
    gives_alt (gives_map Noted made_constant constant_noted gives_anything) (gives_alt (gives_map Noted made_type type_noted gives_anything) (gives_alt
    (gives_map Noted made_array array_noted gives_anything) (gives_alt (gives_map Noted made_struct struct_noted gives_anything) (gives_alt
    (enum_yields depth) (gives_map Noted made_port port_noted gives_anything)))))
