-- What is written of the types of a source: kinds, forms and defaults, over what uses mean and the values that expressions have.
-- FPP Language Specification, "Type Names", "Abstract Type Definitions", "Type Alias Definitions", "Array Definitions", "Struct
-- Definitions", "Enum Definitions".
use Rattle.std.specs.Prelude.{◌≡◌, ℕ, suc, ◌+◌, ◌≤◌, Bool, true, false, cond, ℤ, pos, List, [], ◌∷◌, ◌++◌, flat_map, take, Option, Some, None, option_map}
use Rattle.fp_base.specs.declared.value.Value.{Value}
use Rattle.fp_tree.specs.declared.source.Source.{Source}
use Rattle.fp_tree.specs.declared.name.Name.{Name}
use Rattle.fp_tree.specs.declared.name.Str.{Str}
use Rattle.fp_tree.specs.declared.definition.Def.{Def}
use Rattle.fp_tree.specs.declared.definition.Def.TheVariants as def
use Rattle.fp_tree.specs.declared.definition.Enum.{Enum}
use Rattle.fp_tree.specs.declared.expression.Expr.{Expr}
use Rattle.fp_tree.specs.declared.type_name.TypeName.{TypeName}
use Rattle.fp_tree.specs.declared.type_name.TypeForm.{TypeForm}
use Rattle.fp_tree.specs.declared.type_name.TypeForm.TheVariants as type
use Rattle.fp_tree.specs.declared.part.EnumConst.{EnumConst}
use Rattle.fp_tree.specs.declared.part.Field.{Field as Member}
use Rattle.fp_tables.specs.declared.kind.Kind.{Kind}
use Rattle.fp_tables.specs.declared.kind.Kind.TheVariants as kind
use Rattle.fp_tables.specs.declared.kind.Form.{Form}
use Rattle.fp_tables.specs.declared.kind.Form.TheVariants as form
use Rattle.fp_tables.specs.declared.kind.Field.{Field}
use Rattle.fp_tables.specs.declared.kind.Constant.{Constant}
use Rattle.fp_meaning.specs.declared.group.Group.{Group}
use Rattle.fp_meaning.specs.declared.group.Group.TheVariants as group
use Rattle.fp_meaning.specs.declared.item.Item.{Item}
use Rattle.fp_meaning.specs.declared.item.Item.TheVariants as item
use Rattle.fp_meaning.specs.declared.names.Definition.{Definition}
use Rattle.fp_meaning.specs.Meaning.{Means}
use Rattle.fp_meaning.specs.Layout.{items}
use Rattle.fp_meaning.specs.Names.{Path, definitions}
use Rattle.fp_meaning.specs.Values.{opened, names_of, dotted, number_in, constant_value, IsImplied, Val}
use Rattle.fp_type_sizes.specs.declared.written.WrittenType.{WrittenType}
use Rattle.fp_type_sizes.specs.declared.written.Own.{Own}
use Rattle.fp_type_sizes.specs.declared.written.Own.TheVariants as own

-- an option holds what has a property, and is empty only where nothing has it
pub record IsOnly {A : Type 0} (P : A → Type 0) (o : Option A) : Type 0 where
  pub holds : (x : A) → o ≡ Some x → P x
  pub only : (x : A) → P x → o ≡ Some x

-- two lists of one length: what stands at one place, counted from a number, is so related
abbrev pub AllAt : {A B : Type 0} → (ℕ → A → B → Type 0) → ℕ → List A → List B → Type 0
AllAt R k [] [] = Unit {0}
AllAt R k [] (y ∷ ys) = ⊥
AllAt R k (x ∷ xs) [] = ⊥
AllAt R k (x ∷ xs) (y ∷ ys) = R k x y × AllAt R (suc k) xs ys

-- ---- the types of a source

abbrev pub is_kind : Group → Bool
is_kind group.Kind = true
is_kind _ = false

abbrev pub type_count : Definition → ℕ
type_count d = cond (is_kind d.group) 1 0

abbrev pub types_among : List Definition → ℕ
types_among [] = 0
types_among (d ∷ ds) = type_count d + types_among ds

-- how many types are defined before the definition with the number
abbrev pub types_before : List Definition → ℕ → ℕ
types_before ds number = types_among (take number ds)

-- a type definition in its scope
pub record TypeHere : Type 0 where
  pub scope : Path
  pub name : Name
  pub definition : Def
  pub default : Option Expr
  pub note : List ℕ

abbrev pub type_here : Path → Name → Def → Option Expr → List ℕ → TypeHere
type_here s n d e note = record { scope = s; name = n; definition = d; default = e; note = note }

abbrev pub types_in : Path → Def → List TypeHere
types_in scope (def.Constant d) = []
types_in scope (def.Abstract d) = type_here scope d.name (def.Abstract d) None d.note ∷ []
types_in scope (def.Alias d) = type_here scope d.name (def.Alias d) None d.note ∷ []
types_in scope (def.Array d) = type_here scope d.name (def.Array d) d.default d.note ∷ []
types_in scope (def.Struct d) = type_here scope d.name (def.Struct d) d.default d.note ∷ []
types_in scope (def.Enum d) = type_here scope d.name (def.Enum d) d.default d.note ∷ []
types_in scope (def.Port d) = []

abbrev pub types_of : Item → List TypeHere
types_of (item.Defined s) = types_in s.scope s.definition
types_of (item.Enumerated e) = []
types_of (item.Declared d) = []
types_of (item.Used since n) = []
types_of (item.Written since p) = []

-- in the order of the source: a type is named by its position here
abbrev pub types : Source → List TypeHere
types source = flat_map types_of (items source)

-- ---- what their parts stand for

-- the type that a reserved word names; a float names none
abbrev pub primitive : TypeForm → Option Kind
primitive type.U8 = Some kind.U8
primitive type.U16 = Some kind.U16
primitive type.U32 = Some kind.U32
primitive type.U64 = Some kind.U64
primitive type.I8 = Some kind.I8
primitive type.I16 = Some kind.I16
primitive type.I32 = Some kind.I32
primitive type.I64 = Some kind.I64
primitive type.Bool = Some kind.Bool
primitive _ = None

abbrev pub text_in : Option Str → Option (List ℕ)
text_in s = option_map (λ (x : Str). x.text) s

abbrev pub field_with : Member → Option ℕ → Kind → Field
field_with f size k = record { name = f.name.text; size = size; kind = k; format = text_in f.format; note = f.note }

module _ (source : Source) (scope : Path) where
  -- the number of an expression in whose place a number is wanted; an enumerated constant stands for its number
  abbrev pub NumberIs : Expr → ℤ → Type 0
  NumberIs e n = (v : Value) × Val source scope (opened e) v × (number_in v ≡ Some n)

  -- a number from 1 to the most
  pub record IsSizeTo (most : ℕ) (e : Expr) (n : ℕ) : Type 0 where
    pub number : NumberIs e (pos n)
    pub least : 1 ≤ n
    pub greatest : n ≤ most

  abbrev pub IsArraySize : Expr → ℕ → Type 0
  IsArraySize e n = IsSizeTo 256 e n

  abbrev pub IsStringSize : Expr → ℕ → Type 0
  IsStringSize e n = IsSizeTo 65535 e n

  -- a type name names a type; a string without a size has the size 80
  abbrev pub KindIs : TypeForm → Kind → Type 0
  KindIs (type.Text None) k = k ≡ kind.Str 80
  KindIs (type.Text (Some e)) k = (n : ℕ) × IsStringSize e n × (k ≡ kind.Str n)
  KindIs (type.Use q) k =
      (number : ℕ) × Means (definitions source) scope (names_of q) group.Kind number × (k ≡ kind.Named (types_before (definitions source) number))
  KindIs t k = primitive t ≡ Some k

  -- the size that is written of a member
  abbrev pub SizeIs : Option Expr → Option ℕ → Type 0
  SizeIs None size = size ≡ None
  SizeIs (Some e) size = (n : ℕ) × IsArraySize e n × (size ≡ Some n)

  abbrev pub FieldIs : Member → Field → Type 0
  FieldIs f x = (size : Option ℕ) × (k : Kind) × SizeIs f.size size × KindIs f.of.form k × (x ≡ field_with f size k)

  abbrev pub FieldsAre : List Member → List Field → Type 0
  FieldsAre fs xs = AllAt (λ position. FieldIs) 0 fs xs

  -- the number of the constant at a position of an enumeration: the one that is written, or, where none of them has one, the position
  abbrev pub ConstantIs : Enum → ℕ → Option Expr → ℤ → Type 0
  ConstantIs d position (Some e) n = NumberIs e n
  ConstantIs d position None n = IsImplied d × (n ≡ pos position)

  abbrev pub EnumeratedIs : Enum → ℕ → EnumConst → Constant → Type 0
  EnumeratedIs d position c x =
      (n : ℤ) × ConstantIs d position c.value n × (x ≡ record { name = c.name.text; value = constant_value scope d c n; note = c.note })

  abbrev pub ConstantsAre : Enum → List EnumConst → List Constant → Type 0
  ConstantsAre d cs xs = AllAt (EnumeratedIs d) 0 cs xs

  -- an enumeration without a representation has I32
  abbrev pub ReprIs : Option TypeName → Kind → Type 0
  ReprIs None k = k ≡ kind.I32
  ReprIs (Some t) k = KindIs t.form k

  -- a type definition has the form, where each of its parts exists
  abbrev pub FormIs : Def → Form → Type 0
  FormIs (def.Abstract d) f = f ≡ form.Abstract
  FormIs (def.Alias d) f = (k : Kind) × KindIs d.target.form k × (f ≡ form.Alias k)
  FormIs (def.Array d) f = (n : ℕ) × (k : Kind) × IsArraySize d.size n × KindIs d.element.form k × (f ≡ form.Array n k (text_in d.format))
  FormIs (def.Struct d) f = (xs : List Field) × FieldsAre d.fields xs × (f ≡ form.Struct xs)
  FormIs (def.Enum d) f = (k : Kind) × (xs : List Constant) × ReprIs d.repr k × ConstantsAre d d.constants xs × (f ≡ form.Enum k xs)
  FormIs _ f = ⊥

  -- what stands behind `default`: nothing, or an expression with its value or without one
  abbrev pub OwnIs : Option Expr → Own → Type 0
  OwnIs None own.Unwritten = Unit {0}
  OwnIs (Some e) (own.Has v) = Val source scope (opened e) v
  OwnIs (Some e) own.NoValue = (v : Value) → Val source scope (opened e) v → ⊥
  OwnIs _ _ = ⊥

-- what is written of a type
pub record IsWritten (source : Source) (t : TypeHere) (w : WrittenType) : Type 0 where
  pub name : w.name ≡ dotted (t.scope ++ t.name.text ∷ [])
  pub form : IsOnly (FormIs source t.scope t.definition) w.form
  pub default : OwnIs source t.scope t.default w.default
  pub note : w.note ≡ t.note

-- of each type of a source, in order
abbrev pub AreWritten : Source → List WrittenType → Type 0
AreWritten source ws = AllAt (λ position. IsWritten source) 0 (types source) ws
