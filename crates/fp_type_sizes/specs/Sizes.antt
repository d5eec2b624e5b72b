-- How large types are, by their forms alone.
use Rattle.std.specs.Prelude.{◌≡◌, ℕ, ◌+◌, ◌*◌, ◌≤◌, ◌<◌, ◌⊎◌, max, ℤ, List, [], ◌∷◌, Option, Some, None, slice_get}
use Rattle.fp_tables.specs.Types as types
use Rattle.fp_tables.specs.declared.kind.Kind.{Kind}
use Rattle.fp_tables.specs.declared.kind.Kind.TheVariants as kind
use Rattle.fp_tables.specs.declared.kind.Form.{Form}
use Rattle.fp_tables.specs.declared.kind.Form.TheVariants as form
use Rattle.fp_tables.specs.declared.kind.Field.{Field}
use Rattle.fp_tables.specs.declared.kind.Constant.{Constant}
use Rattle.fp_type_sizes.specs.declared.written.WrittenType.{WrittenType}

-- a type that isn't one of the source
abbrev pub IsPlain : Kind → Type 0
IsPlain (kind.Named i) = ⊥
IsPlain _ = Unit {0}

-- the type with the number has the form
pub record HasForm (ws : List WrittenType) (i : ℕ) (f : Form) : Type 0 where
  pub written : WrittenType
  pub here : slice_get ws i ≡ Some written
  pub form : written.form ≡ Some f

abbrev pub IsAlias : Form → Type 0
IsAlias (form.Alias k) = Unit {0}
IsAlias _ = ⊥

-- what a type is behind its aliases
pub data EndsAs (ws : List WrittenType) : Kind → Kind → Type 0 where
  at_plain : {k : Kind} → IsPlain k → EndsAs ws k k
  at_form : {i : ℕ} {f : Form} → HasForm ws i f → ¬ IsAlias f → EndsAs ws (kind.Named i) (kind.Named i)
  behind_alias : {i : ℕ} {k e : Kind} → HasForm ws i (form.Alias k) → EndsAs ws k e → EndsAs ws (kind.Named i) e

-- an integer type, or an alias of one, with its least and its greatest number
abbrev pub IsInteger : List WrittenType → Kind → ℤ → ℤ → Type 0
IsInteger ws k low high = (e : Kind) × EndsAs ws k e × (types.shape [] e ≡ types.integer low high)

-- a type has so many leaves and levels: the smallest relation under one rule for each form. A type of which a part doesn't exist has none, and
-- so has one that leads to such a type or to itself. A leaf is one level, and an array or struct is one more than what stands in it; a struct
-- without members is a leaf. An enumeration is a leaf if its numbers are those of an integer type
mutual
  pub data Measures (ws : List WrittenType) : Kind → ℕ → ℕ → Type 0 where
    plain : {k : Kind} → IsPlain k → Measures ws k 1 1
    named : {i a b : ℕ} {f : Form} → HasForm ws i f → MeasuresForm ws f a b → Measures ws (kind.Named i) a b

  pub data MeasuresForm (ws : List WrittenType) : Form → ℕ → ℕ → Type 0 where
    abstract_ : MeasuresForm ws form.Abstract 1 1
    alias : {k : Kind} {a b : ℕ} → Measures ws k a b → MeasuresForm ws (form.Alias k) a b
    array : {size a b : ℕ} {k : Kind} {format : Option (List ℕ)} → Measures ws k a b → MeasuresForm ws (form.Array size k format) (size * a) (1 + b)
    struct : {fields : List Field} {a b : ℕ} → MeasuresFields ws fields a b → MeasuresForm ws (form.Struct fields) (max 1 a) (1 + b)
    enum : {k : Kind} {cs : List Constant} {low high : ℤ} {a b : ℕ} → IsInteger ws k low high → Measures ws k a b → MeasuresForm ws (form.Enum k cs) 1 1

  -- the sum of the leaves of members, and the most of their levels
  pub data MeasuresFields (ws : List WrittenType) : List Field → ℕ → ℕ → Type 0 where
    no_field : MeasuresFields ws [] 0 0
    field : {f : Field} {fs : List Field} {a b c d : ℕ} → MeasuresMember ws f.size f.kind a b → MeasuresFields ws fs c d → MeasuresFields ws (f ∷ fs) (a + c) (max b d)

  -- a member with a size is an array
  pub data MeasuresMember (ws : List WrittenType) : Option ℕ → Kind → ℕ → ℕ → Type 0 where
    one : {k : Kind} {a b : ℕ} → Measures ws k a b → MeasuresMember ws None k a b
    many : {size a b : ℕ} {k : Kind} → Measures ws k a b → MeasuresMember ws (Some size) k (size * a) (1 + b)

module _ (ws : List WrittenType) (k : Kind) where
  -- at most 65,536 leaves and 64 levels
  abbrev pub IsOfSize : Type 0
  IsOfSize = (a b : ℕ) × Measures ws k a b × (a ≤ 65536) × (b ≤ 64)

  -- more of the one or of the other
  abbrev pub IsTooLarge : Type 0
  IsTooLarge = (a b : ℕ) × Measures ws k a b × ((65536 < a) ⊎ (64 < b))
