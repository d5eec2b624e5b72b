-- The rules that what is written of types breaks, and where each is broken. A rule that needs a value or a form isn't broken where there is
-- none. FPP Language Specification, "Type Names", "Array Definitions", "Struct Definitions", "Enum Definitions", "Struct Expressions".
use Rattle.std.specs.Prelude.{◌≡◌, ℕ, ◌<◌, cond, is_none, Bool, true, ◌⊎◌, false, ◌&&◌, ℤ, pos, int_le, List, Option, Some, None, slice_get}
use Rattle.std.specs.BTreeSet.{BTreeSet, contains_by}
use Rattle.std.specs.Ordering.{int_cmp, int_eq}
use Rattle.fp_base.specs.declared.place.Place.{Place}
use Rattle.fp_base.specs.declared.refusal.Refusal.{Refusal}
use Rattle.fp_base.specs.declared.rule.Rule.{Rule}
use Rattle.fp_base.specs.declared.rule.Rule.TheVariants.{FloatUsed, BadConversion, OutsideType, ArraySize, EnumValuesAllOrNone, EnumValueRepeated, BadMember, StringSize}
use Rattle.fp_base.specs.declared.value.Value.{Value}
use Rattle.fp_base.specs.Least.{broken_at, Either, InSome, IsLeast}
pub use Rattle.fp_base.specs.Least.{ByOptional}
use Rattle.fp_tree.specs.declared.source.Source.{Source}
use Rattle.fp_tree.specs.declared.name.Name.{Name}
use Rattle.fp_tree.specs.declared.definition.Def.{Def}
use Rattle.fp_tree.specs.declared.definition.Def.TheVariants as def
use Rattle.fp_tree.specs.declared.definition.Enum.{Enum}
use Rattle.fp_tree.specs.declared.expression.Expr.{Expr}
use Rattle.fp_tree.specs.declared.expression.Form.TheOpen as opening
use Rattle.fp_tree.specs.declared.expression.Assignment.{Assignment}
use Rattle.fp_tree.specs.declared.type_name.TypeName.{TypeName}
use Rattle.fp_tree.specs.declared.type_name.TypeForm.{TypeForm}
use Rattle.fp_tree.specs.declared.type_name.TypeForm.TheVariants as type
use Rattle.fp_tree.specs.declared.part.EnumConst.{EnumConst}
use Rattle.fp_tree.specs.declared.part.Field.{Field as Member}
use Rattle.fp_tree.specs.declared.part.Formal.{Formal}
use Rattle.fp_tables.specs.declared.kind.Kind.{Kind}
use Rattle.fp_meaning.specs.declared.item.Item.{Item}
use Rattle.fp_meaning.specs.declared.item.Item.TheVariants as item
use Rattle.fp_meaning.specs.ConstantFaults.{parts_of}
use Rattle.fp_meaning.specs.Layout.{items}
use Rattle.fp_meaning.specs.Names.{Path}
use Rattle.fp_meaning.specs.Origins.{Placed, one, expressions}
use Rattle.fp_meaning.specs.Values.{opened, number_in, Val}
use Rattle.fp_type_sizes.specs.declared.written.WrittenType.{WrittenType}
use Rattle.fp_type_sizes.specs.Sizes.{IsInteger, Measures}
use Rattle.fp_type_forms.specs.declared.resolving.Resolution.{Resolution}
use Rattle.fp_type_forms.specs.Resolved.{AreResolved}
use Rattle.fp_type_forms.specs.Written.{TypeHere, types, NumberIs, KindIs, ReprIs, ConstantIs}

-- from 1 to the most
abbrev pub is_size : ℕ → ℤ → Bool
is_size most n = int_le (pos 1) n && int_le n (pos most)

-- a constant has no value written, or has one
abbrev pub HasConstant : Enum → Bool → Type 0
HasConstant d without = (i : ℕ) × (c : EnumConst) × (slice_get d.constants i ≡ Some c) × (is_none c.value ≡ without)

-- one constant has a value written, and another has none
abbrev pub HasBoth : Enum → Type 0
HasBoth d = HasConstant d false × HasConstant d true

-- at the name of the enumeration
abbrev pub IsMixed : Enum → Refusal → Type 0
IsMixed d f = (f ≡ broken_at EnumValuesAllOrNone d.name.at.first) × HasBoth d

-- ---- rules of type names, of sizes and of the numbers of enumerated constants

-- what is found of a value in the place of a size
abbrev pub number_fault : Rule → ℕ → Place → Option ℤ → Option Refusal
number_fault rule most place None = Some (broken_at BadConversion place)
number_fault rule most place (Some n) = cond (is_size most n) None (Some (broken_at rule place))

abbrev pub size_fault : Rule → ℕ → Place → Option Value → Option Refusal
size_fault rule most place None = None
size_fault rule most place (Some v) = number_fault rule most place (number_in v)

-- and in the place of a number
abbrev pub no_number : Place → Option ℤ → Option Refusal
no_number place None = Some (broken_at BadConversion place)
no_number place (Some n) = None

abbrev pub value_fault : Place → Option Value → Option Refusal
value_fault place None = None
value_fault place (Some v) = no_number place (number_in v)

abbrev pub written_fault : Option Expr → Option Value → Option Refusal
written_fault None o = None
written_fault (Some e) o = value_fault e.at.first o

module _ (source : Source) (scope : Path) where
  -- at an expression in whose place a number is wanted, and whose value is none
  abbrev pub IsNoNumber : Expr → Refusal → Type 0
  IsNoNumber e f = (f ≡ broken_at BadConversion e.at.first) × (v : Value) × Val source scope (opened e) v × (number_in v ≡ None)

  -- at a size that isn't from 1 to the most
  abbrev pub IsBadSize : Rule → ℕ → Expr → Refusal → Type 0
  IsBadSize rule most e f = (f ≡ broken_at rule e.at.first) × (n : ℤ) × NumberIs source scope e n × (is_size most n ≡ false)

  abbrev pub BrokenBySize : Rule → ℕ → Expr → Refusal → Type 0
  BrokenBySize rule most e = Either (IsNoNumber e) (IsBadSize rule most e)

  -- a float type, at the type name; the size of a string
  abbrev pub BrokenByForm : Place → TypeForm → Refusal → Type 0
  BrokenByForm place type.F32 f = f ≡ broken_at FloatUsed place
  BrokenByForm place type.F64 f = f ≡ broken_at FloatUsed place
  BrokenByForm place (type.Text size) f = ByOptional (BrokenBySize StringSize 65535) size f
  BrokenByForm place _ f = ⊥

  abbrev pub BrokenByName : TypeName → Refusal → Type 0
  BrokenByName t = BrokenByForm t.at.first t.form

  abbrev pub BrokenByMember : Member → Refusal → Type 0
  BrokenByMember m = Either (ByOptional (BrokenBySize ArraySize 256) m.size) (BrokenByName m.of)

  abbrev pub BrokenByNumber : EnumConst → Refusal → Type 0
  BrokenByNumber c = ByOptional IsNoNumber c.value

  -- what is broken in the parts of a definition, each by itself
  abbrev pub BrokenByParts : Def → Refusal → Type 0
  BrokenByParts (def.Alias d) = BrokenByName d.target
  BrokenByParts (def.Array d) = Either (BrokenBySize ArraySize 256 d.size) (BrokenByName d.element)
  BrokenByParts (def.Struct d) = InSome (λ k. BrokenByMember) d.fields
  BrokenByParts (def.Enum d) = Either (ByOptional BrokenByName d.repr) (Either (InSome (λ k. BrokenByNumber) d.constants) (IsMixed d))
  BrokenByParts (def.Port d) = Either (InSome (λ k (p : Formal). BrokenByName p.of) d.formals) (ByOptional BrokenByName d.result)
  BrokenByParts _ = λ f. ⊥

abbrev pub BrokenByItem : Source → Item → Refusal → Type 0
BrokenByItem source (item.Defined s) = BrokenByParts source s.scope s.definition
BrokenByItem source _ = λ f. ⊥

-- in types and in ports
abbrev pub TypePartsBroken : Source → Refusal → Type 0
TypePartsBroken source = InSome (λ k. BrokenByItem source) (items source)

-- the least of what items break, where these are the source's and are resolved
abbrev pub LeastOfAll : (Source → Item → Refusal → Type 0) → List (Option Value) → List Resolution → List Item → Option Refusal → Type 0
LeastOfAll P marks rs is first = (source : Source) → is ≡ items source → AreResolved source marks rs is 0 → IsLeast (InSome (λ k. P source) (items source)) first

-- ---- names that are repeated

-- at the name of an element, where an earlier one has it
abbrev pub RepeatsName : {A : Type 0} → (A → Name) → List A → ℕ → A → Refusal → Type 0
RepeatsName {A = A} name_of xs j x f =
    (f ≡ broken_at BadMember (name_of x).at.first) × (i : ℕ) × (y : A) × (i < j) × (slice_get xs i ≡ Some y) × ((name_of y).text ≡ (name_of x).text)

-- at a name that the struct expression has before, or one within it, whether anything converts it or not
pub data RepeatsIn : Expr → Refusal → Type 0 where
  itself : {e : Expr} {members : List Assignment} {f : Refusal} → opened e ≡ opening.Struct members
      → InSome (RepeatsName (λ (x : Assignment). x.name) members) members f → RepeatsIn e f
  within : {e part : Expr} {f : Refusal} (k : ℕ) → slice_get (parts_of (opened e)) k ≡ Some part → RepeatsIn part f → RepeatsIn e f

abbrev pub BrokenByRepeats : Source → Refusal → Type 0
BrokenByRepeats source = InSome (λ k (p : Placed). RepeatsIn p.expression) (expressions source)

-- at a member of a struct whose name an earlier member has
abbrev pub RepeatsMember : Def → Refusal → Type 0
RepeatsMember (def.Struct d) = InSome (RepeatsName (λ (x : Member). x.name) d.fields) d.fields
RepeatsMember _ = λ f. ⊥

-- ---- rules of enumerations

-- a float type
abbrev pub IsFloat : TypeForm → Type 0
IsFloat type.F32 = Unit {0}
IsFloat type.F64 = Unit {0}
IsFloat _ = ⊥

abbrev pub written_place : Place → Option Expr → Place
written_place place None = place
written_place place (Some e) = e.at.first

-- where the number of a constant stands: at its value, or at its name where none is written
abbrev pub constant_place : EnumConst → Place
constant_place c = written_place c.name.at.first c.value

module _ (source : Source) (scope : Path) where
  -- at the name of a constant with the number of an earlier one
  abbrev pub IsRepeated : Enum → ℕ → EnumConst → Refusal → Type 0
  IsRepeated d j c f =
      (f ≡ broken_at EnumValueRepeated c.name.at.first) × (n : ℤ) × ConstantIs source scope d j c.value n
      × (i : ℕ) × (b : EnumConst) × (i < j) × (slice_get d.constants i ≡ Some b) × ConstantIs source scope d i b.value n

  abbrev pub RepeatsByDefinition : Def → Refusal → Type 0
  RepeatsByDefinition (def.Enum d) = InSome (IsRepeated d) d.constants
  RepeatsByDefinition _ = λ f. ⊥

  module _ (ws : List WrittenType) where
    -- a type with all its parts is behind its aliases no integer type
    abbrev pub IsNoInteger : Kind → Type 0
    IsNoInteger k = (a b : ℕ) × Measures ws k a b × ((low high : ℤ) → IsInteger ws k low high → ⊥)

    -- at a representation that is no integer type
    abbrev pub IsBadRepr : Enum → Refusal → Type 0
    IsBadRepr d f = (t : TypeName) × (d.repr ≡ Some t) × (f ≡ broken_at BadConversion t.at.first) × (IsFloat t.form ⊎ ((k : Kind) × KindIs source scope t.form k × IsNoInteger k))

    -- the numbers that the representation has
    abbrev pub HasRange : Enum → ℤ → ℤ → Type 0
    HasRange d low high = (k : Kind) × ReprIs source scope d.repr k × IsInteger ws k low high

    -- at the value of a constant that the representation lacks, or at the name where the value is implied
    abbrev pub IsOutside : Enum → ℕ → EnumConst → Refusal → Type 0
    IsOutside d j c f =
        (f ≡ broken_at OutsideType (constant_place c)) × (low high n : ℤ) × HasRange d low high × ConstantIs source scope d j c.value n
        × ((int_le low n && int_le n high) ≡ false)

    abbrev pub BrokenByEnum : Def → Refusal → Type 0
    BrokenByEnum (def.Enum d) = Either (IsBadRepr d) (InSome (IsOutside d) d.constants)
    BrokenByEnum _ = λ f. ⊥

abbrev pub RepeatsByItem : Source → Item → Refusal → Type 0
RepeatsByItem source (item.Defined s) = RepeatsByDefinition source s.scope s.definition
RepeatsByItem source _ = λ f. ⊥

-- an enumeration has one number twice
abbrev pub NumbersRepeated : Source → Refusal → Type 0
NumbersRepeated source = InSome (λ k. RepeatsByItem source) (items source)

-- what is found of a number that was seen or not
abbrev pub repeat_of : Place → BTreeSet ℤ → Option ℤ → Option Refusal
repeat_of place seen None = None
repeat_of place seen (Some n) = cond (contains_by (int_cmp n) seen) (Some (broken_at EnumValueRepeated place)) None

abbrev pub is_number : ℤ → Option ℤ → Bool
is_number q None = false
is_number q (Some n) = int_eq q n

-- the least of both
abbrev pub LeastOfBoth : List (Option Value) → List Resolution → List Item → Option Refusal → Type 0
LeastOfBoth marks rs is first =
    (source : Source) → is ≡ items source → AreResolved source marks rs is 0 → IsLeast (Either (TypePartsBroken source) (NumbersRepeated source)) first

abbrev pub BrokenByType : Source → List WrittenType → TypeHere → Refusal → Type 0
BrokenByType source ws t = Either (RepeatsMember t.definition) (BrokenByEnum source t.scope ws t.definition)

-- a rule of what is written of types is broken
abbrev pub FormsBroken : Source → List WrittenType → Refusal → Type 0
FormsBroken source ws =
    Either (TypePartsBroken source) (Either (NumbersRepeated source) (Either (BrokenByRepeats source) (InSome (λ k. BrokenByType source ws) (types source))))
