-- Which expressions have which values. FPP Language Specification, "Expressions", "Values", "Enum Definitions".
-- The values are whole numbers, not the numbers of a machine: each lies from -2^127 to 2^127 - 1, and a quotient is rounded toward zero.
use Rattle.std.specs.Prelude.{◌≡◌, ℕ, ◌+◌, ◌≤◌, Bool, ℤ, pos, ◌+ℤ◌, ◌-ℤ◌, ◌*ℤ◌, neg_ℤ, int_div, FitsSigned, List, [], ◌∷◌, ◌++◌, map, flat_map, sum, max, slice_get, Option, Some, None}
use Rattle.std.specs.List.{All}
use Rattle.std.specs.Int.{w128}
use Rattle.fp_base.specs.declared.value.Value.{Value, fold-Value, Int, Bool as Truth, Text, Enumerated, Array, Struct}
use Rattle.fp_base.specs.declared.value.Value.TheOpen as value
use Rattle.fp_base.specs.declared.value.MemberValue.{MemberValue}
use Rattle.fp_tree.specs.declared.source.Source.{Source}
use Rattle.fp_tree.specs.declared.name.Name.{Name}
use Rattle.fp_tree.specs.declared.name.Qual.{Qual}
use Rattle.fp_tree.specs.declared.definition.Enum.{Enum}
use Rattle.fp_tree.specs.declared.part.EnumConst.{EnumConst}
use Rattle.fp_tree.specs.declared.expression.Operator.{Operator}
use Rattle.fp_tree.specs.declared.expression.Operator.TheVariants.{Add, Subtract, Multiply, Divide}
use Rattle.fp_tree.specs.declared.expression.Expr.{Expr}
use Rattle.fp_tree.specs.declared.expression.Form.{Form, Form-F, out-Form}
use Rattle.fp_tree.specs.declared.expression.Form.TheOpen as form
use Rattle.fp_tree.specs.declared.expression.Assignment.{Assignment}
use Rattle.fp_meaning.specs.declared.group.Group.TheVariants as group
use Rattle.fp_meaning.specs.Names.{Path, definitions}
use Rattle.fp_meaning.specs.Meaning.{Means}
use Rattle.fp_meaning.specs.Origins.{Origin, Constant, Enumerated as EnumeratedThere, origins}

-- the number of a whole number or of an enumerated constant, which stands for its number
abbrev pub number_in : Value → Option ℤ
number_in (Int n) = Some n
number_in (Enumerated of constant n) = Some n
number_in _ = None

-- the exact whole number, a quotient rounded toward zero
abbrev pub result_of : Operator → ℤ → ℤ → ℤ
result_of Add x y = x +ℤ y
result_of Subtract x y = x -ℤ y
result_of Multiply x y = x *ℤ y
result_of Divide x y = int_div x y

-- the divisor, if there is one, isn't 0
abbrev pub HasDivisor : Operator → ℤ → Type 0
HasDivisor Divide y = y ≡ pos 0 → ⊥
HasDivisor _ y = Unit {0}

abbrev pub HasResult : Operator → ℤ → ℤ → Type 0
HasResult operator x y = HasDivisor operator y × FitsSigned w128 (result_of operator x y)

-- the leaves of a list or struct, from those of its parts; without parts it is itself a leaf
abbrev pub leaves_among : List ℕ → ℕ
leaves_among [] = 1
leaves_among (n ∷ ns) = sum (n ∷ ns)

abbrev pub leaves_step : value.Value-F ℕ ℕ → ℕ
leaves_step (value.Array items) = leaves_among items
leaves_step (value.Struct parts) = leaves_among parts
leaves_step _ = 1

abbrev pub leaves : Value → ℕ
leaves v = fold-Value ℕ ℕ leaves_step (λ p. p.value) v

-- a leaf is one level, and a list or struct one more than the deepest of its parts
abbrev pub deepest : List ℕ → ℕ
deepest [] = 0
deepest (n ∷ ns) = max n (deepest ns)

abbrev pub levels_step : value.Value-F ℕ ℕ → ℕ
levels_step (value.Array items) = 1 + deepest items
levels_step (value.Struct parts) = 1 + deepest parts
levels_step _ = 1

abbrev pub levels : Value → ℕ
levels v = fold-Value ℕ ℕ levels_step (λ p. p.value) v

-- at most 65,536 leaves and 64 levels
pub record IsWithinSize (v : Value) : Type 0 where
  pub of_leaves : leaves v ≤ 65536
  pub of_levels : levels v ≤ 64

-- names with a dot between each two
abbrev pub dotted : Path → List ℕ
dotted [] = []
dotted (name ∷ names) = name ++ flat_map (λ n. 46 ∷ n) names

-- the constant of an enumeration in a scope, with its number
abbrev pub constant_value : Path → Enum → EnumConst → ℤ → Value
constant_value scope e c number = Enumerated (dotted (scope ++ e.name.text ∷ [])) c.name.text number

-- no constant of the enumeration has a value written
abbrev pub IsImplied : Enum → Type 0
IsImplied e = All (λ (c : EnumConst). c.value ≡ None) e.constants

-- each member's name with its value
abbrev pub parts_with : List Assignment → List Value → List MemberValue
parts_with (m ∷ ms) (v ∷ vs) = record { name = m.name.text; value = v } ∷ parts_with ms vs
parts_with _ _ = []

abbrev pub values_in : List Assignment → List Expr
values_in members = map (λ (m : Assignment). m.value) members

-- an expression by its outermost production, with the expressions in it
abbrev pub Opened : Type 0
Opened = Form-F Form Assignment Expr

abbrev pub opened : Expr → Opened
opened e = out-Form e.form

abbrev pub names_of : Qual → Path
names_of q = map (λ (n : Name). n.text) q.names

-- in a scope a use of a value's name means what has this origin
abbrev pub MeansOrigin : Source → Path → Qual → Origin → Type 0
MeansOrigin source scope name origin =
    (number : ℕ) × Means (definitions source) scope (names_of name) group.Value number × (slice_get (origins source) number ≡ Some origin)

-- an expression in a scope has a value: the smallest relation under one rule for each production. A float has none
mutual
  pub data Val (source : Source) : Path → Opened → Value → Type 0 where
    number : {scope : Path} {n : ℤ} → Val source scope (form.Number n) (Int n)
    text : {scope : Path} {t : List ℕ} → Val source scope (form.Text t) (Text t)
    truth : {scope : Path} {b : Bool} → Val source scope (form.Truth b) (Truth b)
    -- the name of a constant has the value of its expression
    constant : {scope inner : Path} {name : Qual} {e : Expr} {v : Value}
        → MeansOrigin source scope name (Constant inner e) → Val source inner (opened e) v → Val source scope (form.Use name) v
    -- that of an enumerated constant with a value written has this value's number
    written : {scope inner : Path} {name : Qual} {enum : Enum} {position : ℕ} {c : EnumConst} {e : Expr} {v : Value} {n : ℤ}
        → MeansOrigin source scope name (EnumeratedThere inner enum position c) → c.value ≡ Some e → Val source inner (opened e) v → number_in v ≡ Some n
        → Val source scope (form.Use name) (constant_value inner enum c n)
    -- and where neither it nor another of its enumeration has one, its position
    implied : {scope inner : Path} {name : Qual} {enum : Enum} {position : ℕ} {c : EnumConst}
        → MeansOrigin source scope name (EnumeratedThere inner enum position c) → c.value ≡ None → IsImplied enum
        → Val source scope (form.Use name) (constant_value inner enum c (pos position))
    negated : {scope : Path} {a : Expr} {u : Value} {x : ℤ}
        → Val source scope (opened a) u → number_in u ≡ Some x → FitsSigned w128 (neg_ℤ x) → Val source scope (form.Minus a) (Int (neg_ℤ x))
    combined : {scope : Path} {operator : Operator} {a b : Expr} {u w : Value} {x y : ℤ}
        → Val source scope (opened a) u → number_in u ≡ Some x → Val source scope (opened b) w → number_in w ≡ Some y → HasResult operator x y
        → Val source scope (form.Binary operator a b) (Int (result_of operator x y))
    -- parentheses have the value of what stands in them
    enclosed : {scope : Path} {a : Expr} {v : Value} → Val source scope (opened a) v → Val source scope (form.Parentheses a) v
    listed : {scope : Path} {items : List Expr} {vs : List Value}
        → Vals source scope items vs → IsWithinSize (Array vs) → Val source scope (form.Array items) (Array vs)
    structured : {scope : Path} {members : List Assignment} {vs : List Value}
        → Vals source scope (values_in members) vs → IsWithinSize (Struct (parts_with members vs))
        → Val source scope (form.Struct members) (Struct (parts_with members vs))

  -- expressions have values, each its own
  pub data Vals (source : Source) : Path → List Expr → List Value → Type 0 where
    none : {scope : Path} → Vals source scope [] []
    more : {scope : Path} {e : Expr} {es : List Expr} {v : Value} {vs : List Value}
        → Val source scope (opened e) v → Vals source scope es vs → Vals source scope (e ∷ es) (v ∷ vs)

-- the value of an opened expression, if it has one
pub record IsValue (source : Source) (scope : Path) (s : Opened) (value : Option Value) : Type 0 where
  pub holds : (v : Value) → value ≡ Some v → Val source scope s v
  pub only : (v : Value) → Val source scope s v → value ≡ Some v
