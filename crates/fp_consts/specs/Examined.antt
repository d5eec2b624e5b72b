-- What is found of an expression, from the values of the definitions that its names mean.
use Rattle.std.specs.Prelude.{◌≡◌, ℕ, ◌+◌, ◌-◌, ◌^◌, ◌<◌, ◌≤◌, ◌⊎◌, min, max, true, false, ◌++◌, ℤ, pos, List, [], ◌∷◌, length, map, flat_map, sum, slice_get, Option, Some, None, option_map}
use Rattle.fp_base.specs.declared.refusal.Refusal.{Refusal}
use Rattle.fp_base.specs.declared.value.Value.{Value, Int}
use Rattle.fp_base.specs.declared.rule.Rule.TheVariants.{ValueTooLarge}
use Rattle.fp_base.specs.declared.place.Place.{Place}
use Rattle.fp_tree.specs.declared.source.Source.{Source}
use Rattle.fp_tree.specs.declared.expression.Operator.{Operator}
use Rattle.fp_tree.specs.declared.expression.Expr.{Expr}
use Rattle.fp_tree.specs.declared.expression.Form.{Form}
use Rattle.fp_meaning.specs.declared.names.Mention.{Mention}
use Rattle.fp_base.specs.Least.{IsLeast, InSome, broken_at, lesser_of}
use Rattle.fp_meaning.specs.Names.{Path, definitions, in_expression}
use Rattle.fp_meaning.specs.Meaning.{Means}
use Rattle.fp_meaning.specs.Origins.{Origin, Constant, Enumerated, NoValue, origins}
use Rattle.fp_meaning.specs.Values.{opened, number_in, constant_value, IsImplied, IsWithinSize, leaves, levels, deepest, Val, Vals, IsValue}
use Rattle.fp_meaning.specs.ConstantFaults.{BrokenIn}
use Rattle.fp_consts.specs.declared.measured.Measured.{Measured}
use Rattle.fp_consts.specs.declared.found.Examination.{Examination}
use Rattle.fp_consts.specs.declared.gathered.Gathered.{Gathered}
use Rattle.fp_consts.specs.declared.gathered.Whole.{Whole}
use Rattle.fp_consts.specs.Operands.{operand_of, KindFault, NegationFault, NegationIs, OperationFault, OperationIs}

pub record IsMeasured (m : Measured) : Type 0 where
  pub of_leaves : m.leaves ≡ leaves m.value
  pub of_levels : m.levels ≡ levels m.value
  pub within : IsWithinSize m.value

abbrev pub plain : Option Measured → Option Value
plain o = option_map (λ (m : Measured). m.value) o

abbrev pub AreMeasured : Option Measured → Type 0
AreMeasured o = (m : Measured) → o ≡ Some m → IsMeasured m

abbrev pub leaf_of : Value → Measured
leaf_of v = record { value = v; leaves = 1; levels = 1 }

-- what a definition gives as its value
abbrev pub GivesValue : Source → Origin → Value → Type 0
GivesValue source (Constant scope e) v = Val source scope (opened e) v
GivesValue source (Enumerated scope enum position c) v =
    ((e : Expr) × (u : Value) × (n : ℤ) × (c.value ≡ Some e) × Val source scope (opened e) u × (number_in u ≡ Some n) × (v ≡ constant_value scope enum c n))
    ⊎ ((c.value ≡ None) × IsImplied enum × (v ≡ constant_value scope enum c (pos position)))
GivesValue source NoValue v = ⊥

abbrev pub HasValue : Source → ℕ → Value → Type 0
HasValue source number v = (origin : Origin) × (slice_get (origins source) number ≡ Some origin) × GivesValue source origin v

-- the entry of a definition in a table
abbrev pub entry : Option (Option Measured) → Option Measured
entry None = None
entry (Some o) = o

abbrev pub value_at : List (Option Measured) → ℕ → Option Measured
value_at table number = entry (slice_get table number)

-- what is found of a name, by the number of its use
abbrev pub NextOf : List (Option Measured) → Option ℕ → ℕ → Examination → Type 0
NextOf table None next found = found ≡ record { value = None; first = None; next = next }
NextOf table (Some number) next found = found ≡ record { value = value_at table number; first = None; next = next + 1 }

abbrev pub UsesNext : List (Option Measured) → List ℕ → ℕ → Examination → Type 0
UsesNext table numbers next found = NextOf table (slice_get numbers next) next found

-- a list or struct without parts is itself a leaf
abbrev pub leaves_with : {A : Type 0} → ℕ → List A → ℕ
leaves_with n [] = 1
leaves_with n (x ∷ xs) = n

-- one expression more: by its value, if it has one
abbrev pub IsJoined : Gathered → Option Measured → Gathered → Type 0
IsJoined before None after = after.complete ≡ false
IsJoined before (Some m) after =
    (after.complete ≡ before.complete) × (after.leaves ≡ min (before.leaves + m.leaves) (2 ^ 32 - 1)) × (after.levels ≡ max before.levels m.levels)
    × (after.leaves ≤ 65536 → after.values ≡ before.values ++ m.value ∷ [])

pub record IsNext (before : Gathered) (found : Examination) (after : Gathered) : Type 0 where
  pub joined : IsJoined before found.value after
  pub first : after.first ≡ lesser_of before.first found.first
  pub next : after.next ≡ found.next

-- a list or struct from its parts
pub record IsSized (place : Place) (parts : Gathered) (whole : Whole) : Type 0 where
  pub some : parts.complete ≡ true → parts.leaves ≤ 65536 → parts.levels < 64
      → (whole.values ≡ Some parts.values) × (whole.leaves ≡ leaves_with parts.leaves parts.values) × (whole.levels ≡ parts.levels + 1)
  pub none : (parts.complete ≡ false) ⊎ ((parts.leaves ≤ 65536) × (parts.levels < 64) → ⊥) → whole.values ≡ None
  pub same : (parts.complete ≡ false) ⊎ ((parts.leaves ≤ 65536) × (parts.levels < 64)) → whole.first ≡ parts.first
  pub past : parts.complete ≡ true → ((parts.leaves ≤ 65536) × (parts.levels < 64) → ⊥) → whole.first ≡ lesser_of (Some (broken_at ValueTooLarge place)) parts.first
  pub next : whole.next ≡ parts.next

abbrev pub measured_with : Value → ℕ → ℕ → Measured
measured_with v n d = record { value = v; leaves = n; levels = d }

-- the value that is made of the parts' values
abbrev pub found_of : (List Value → Value) → Whole → Examination
found_of made s = record { value = option_map (λ vs. measured_with (made vs) s.leaves s.levels) s.values; first = s.first; next = s.next }

-- a negation from its operand, which stands at `inner`
pub record MinusFound (place inner : Place) (operand found : Examination) : Type 0 where
  pub number : Option ℤ
  pub broken : Option Refusal
  pub kind : Option Refusal
  pub is_number : NegationIs (operand_of (plain operand.value)) number
  pub is_broken : IsLeast (NegationFault place (operand_of (plain operand.value))) broken
  pub is_kind : IsLeast (KindFault inner (operand_of (plain operand.value))) kind
  pub value : found.value ≡ option_map (λ n. leaf_of (Int n)) number
  pub first : found.first ≡ lesser_of (lesser_of broken kind) operand.first
  pub next : found.next ≡ operand.next

-- what an operator makes of its operands, which stand at `one` and `other`
pub record BinaryFound (place : Place) (operator : Operator) (one other : Place) (left right found : Examination) : Type 0 where
  pub number : Option ℤ
  pub broken : Option Refusal
  pub left_kind : Option Refusal
  pub right_kind : Option Refusal
  pub is_number : OperationIs operator (operand_of (plain left.value)) (operand_of (plain right.value)) number
  pub is_broken : IsLeast (OperationFault place operator (operand_of (plain left.value)) (operand_of (plain right.value))) broken
  pub is_left : IsLeast (KindFault one (operand_of (plain left.value))) left_kind
  pub is_right : IsLeast (KindFault other (operand_of (plain right.value))) right_kind
  pub value : found.value ≡ option_map (λ n. leaf_of (Int n)) number
  pub first : found.first ≡ lesser_of (lesser_of broken (lesser_of left_kind right_kind)) (lesser_of left.first right.first)
  pub next : found.next ≡ right.next

-- the table has the definition's value, if it has one
pub record IsExact (source : Source) (number : ℕ) (o : Option Measured) : Type 0 where
  pub measured : AreMeasured o
  pub holds : (v : Value) → plain o ≡ Some v → HasValue source number v
  pub only : (v : Value) → HasValue source number v → plain o ≡ Some v

-- from a position on the numbers are those of what the uses mean, one for each, and the table has the values of all
abbrev pub AreGiven : Source → List (Option Measured) → List ℕ → List Mention → ℕ → Type 0
AreGiven source table numbers [] from = Unit {0}
AreGiven source table numbers (m ∷ ms) from =
    ((number : ℕ) × (slice_get numbers from ≡ Some number) × Means (definitions source) m.scope m.name m.group number × IsExact source number (value_at table number))
    × AreGiven source table numbers ms (from + 1)

pub record IsFound (source : Source) (scope : Path) (e : Expr) (from : ℕ) (found : Examination) : Type 0 where
  pub measured : AreMeasured found.value
  pub value : IsValue source scope (opened e) (plain found.value)
  pub first : IsLeast (BrokenIn source scope e) found.first
  pub next : found.next ≡ from + length (in_expression scope e)

-- broken within one of some expressions
abbrev pub PartsBroken : Source → Path → List Expr → Refusal → Type 0
PartsBroken source scope parts = InSome (λ k. BrokenIn source scope) parts

-- of expressions that all have values: the values, if they are few enough, with their leaves and levels
pub record AreGathered (source : Source) (scope : Path) (es : List Expr) (g : Gathered) : Type 0 where
  pub values : List Value
  pub each : Vals source scope es values
  pub of_leaves : g.leaves ≡ min (sum (map leaves values)) (2 ^ 32 - 1)
  pub of_levels : g.levels ≡ deepest (map levels values)
  pub kept : g.leaves ≤ 65536 → g.values ≡ values

pub record IsGathered (source : Source) (scope : Path) (es : List Expr) (from : ℕ) (g : Gathered) : Type 0 where
  pub all : g.complete ≡ true → AreGathered source scope es g
  pub none : g.complete ≡ false → (vs : List Value) → Vals source scope es vs → ⊥
  pub first : IsLeast (PartsBroken source scope es) g.first
  pub next : g.next ≡ from + length (flat_map (in_expression scope) es)

-- where the meanings and values of its uses are given, what is found is right
abbrev pub Examines : List (Option Measured) → List ℕ → Expr → ℕ → Examination → Type 0
Examines table numbers e from found =
    (source : Source) (scope : Path) → AreGiven source table numbers (in_expression scope e) from → IsFound source scope e from found

-- the same of every expression of this form that begins at this place
abbrev pub ExaminesForm : List (Option Measured) → List ℕ → Form → Place → ℕ → Examination → Type 0
ExaminesForm table numbers form place from found = (e : Expr) → e.form ≡ form → e.at.first ≡ place → Examines table numbers e from found

abbrev pub ExaminesAll : List (Option Measured) → List ℕ → List Expr → ℕ → Gathered → Type 0
ExaminesAll table numbers es from g =
    (source : Source) (scope : Path) → AreGiven source table numbers (flat_map (in_expression scope) es) from → IsGathered source scope es from g
