-- What a value becomes in a type, and what the default of a type is. FPP Language Specification, "Type Conversion", "Default Values".
use Rattle.std.specs.Prelude.{◌≡◌, ℕ, Bool, true, false, ◌&&◌, ℤ, pos, int_le, List, [], ◌∷◌, find, length, replicate, Option, Some, None, option_map, slice_get}
use Rattle.std.specs.List.{list_any}
use Rattle.std.specs.Str.{bytes_eq}
use Rattle.fp_base.specs.Same.{same}
use Rattle.fp_base.specs.declared.value.Value.{Value, out-Value, Int, Bool as Truth, Text, Enumerated, Array, Struct, Opaque}
use Rattle.fp_base.specs.declared.value.Value.TheOpen as value
use Rattle.fp_base.specs.declared.value.MemberValue.{MemberValue}
use Rattle.fp_tables.specs.Types as types
use Rattle.fp_tables.specs.declared.kind.Kind.{Kind}
use Rattle.fp_tables.specs.declared.kind.Kind.TheVariants as kind
use Rattle.fp_tables.specs.declared.kind.Form.{Form}
use Rattle.fp_tables.specs.declared.kind.Form.TheVariants as form
use Rattle.fp_tables.specs.declared.kind.Field.{Field}
use Rattle.fp_tables.specs.declared.kind.Constant.{Constant}
use Rattle.fp_type_sizes.specs.declared.written.WrittenType.{WrittenType}
use Rattle.fp_type_sizes.specs.declared.written.Own.{Own}
use Rattle.fp_type_sizes.specs.declared.written.Own.TheVariants as own
use Rattle.fp_types.specs.declared.target.Rest.{Rest}
use Rattle.fp_types.specs.declared.target.Rest.TheVariants.{OfStruct, OfMembers}
use Rattle.fp_type_sizes.specs.Sizes.{IsPlain, HasForm, IsOfSize}

-- a value by what it is outermost, with the values in it
abbrev pub Opened : Type 0
Opened = value.Value-F Value MemberValue

abbrev pub opened : Value → Opened
opened v = out-Value v

-- a number, an enumerated constant, a truth value or a text
abbrev pub IsSingle : Opened → Type 0
IsSingle (value.Array items) = ⊥
IsSingle (value.Struct parts) = ⊥
IsSingle value.Opaque = ⊥
IsSingle _ = Unit {0}

-- a number lies from one to another
abbrev pub IsWithin : ℤ → ℤ → ℤ → Type 0
IsWithin low high n = (int_le low n && int_le n high) ≡ true

-- ---- what a type is

-- an integer from one number to another, a truth value, a text, an array, a struct, the constants of an enumeration, the one value of an
-- abstract type, or a type by its kind
pub data Target : Type 0 where
  integer : ℤ → ℤ → Target
  truth : Target
  words : Target
  array : ℕ → Kind → Target
  struct : Rest → List Field → Target
  constants : List Constant → Target
  opaque : Target
  of_kind : Kind → Target

-- a type that isn't one of the source
abbrev pub plain_target : Kind → Target
plain_target k = of_shape (types.shape [] k)
  where
    of_shape : types.Shape → Target
    of_shape (types.integer low high) = integer low high
    of_shape types.truth = truth
    of_shape types.words = words
    of_shape _ = opaque

-- a type of the source by its form
abbrev pub form_target : Rest → Form → Target
form_target rest form.Abstract = opaque
form_target rest (form.Alias k) = of_kind k
form_target rest (form.Array size element format) = array size element
form_target rest (form.Struct fields) = struct rest fields
form_target rest (form.Enum repr cs) = constants cs

-- a member with a size is an array
abbrev pub member_target : Option ℕ → Kind → Target
member_target None k = of_kind k
member_target (Some size) k = array size k

abbrev pub member : Field → Target
member f = member_target f.size f.kind

abbrev pub member_named : List Field → List ℕ → Option Field
member_named fields name = find (λ (f : Field). bytes_eq f.name name) fields

-- ---- values of members

abbrev pub parts_in : Value → List MemberValue
parts_in v = parts_of (opened v)
  where
    parts_of : Opened → List MemberValue
    parts_of (value.Struct parts) = parts
    parts_of _ = []

-- the first value of the name
abbrev pub value_named : List MemberValue → List ℕ → Option Value
value_named parts name = option_map (λ (p : MemberValue). p.value) (find (λ (p : MemberValue). bytes_eq p.name name) parts)

abbrev pub part_for : Field → Value → MemberValue
part_for f w = record { name = f.name; value = w }

-- the type with the number has this written behind `default`
pub record HasOwn (ws : List WrittenType) (i : ℕ) (o : Own) : Type 0 where
  pub written : WrittenType
  pub here : slice_get ws i ≡ Some written
  pub own : written.default ≡ o

-- ---- conversion and defaults

-- what a value becomes in a type, and the default of a type: the smallest relations under one rule for each sentence. Nothing becomes a type
-- that by its form is past 65,536 leaves or 64 levels, or of which a part doesn't exist, and such a type has no default. Nor does anything become
-- an abstract type
mutual
  pub data Becomes (ws : List WrittenType) : Opened → Target → Value → Type 0 where
    -- a number, in an integer type that has it
    number : {low high n : ℤ} → IsWithin low high n → Becomes ws (value.Int n) (integer low high) (Int n)
    -- an enumerated constant, in an integer type that has its number
    numbered : {of name : List ℕ} {low high n : ℤ} → IsWithin low high n → Becomes ws (value.Enumerated of name n) (integer low high) (Int n)
    truth_value : {b : Bool} → Becomes ws (value.Bool b) truth (Truth b)
    -- a text, in a string type of whatever size
    text : {t : List ℕ} → Becomes ws (value.Text t) words (Text t)
    -- a constant, in its own enumeration, which has it among its constants
    constant : {of name : List ℕ} {n : ℤ} {cs : List Constant} → list_any (λ (x : Constant). same x.value (Enumerated of name n)) cs ≡ true
        → Becomes ws (value.Enumerated of name n) (constants cs) (Enumerated of name n)
    -- an array value, in an array of its length
    part_by_part : {items made : List Value} {size : ℕ} {k : Kind} → length items ≡ size → EachBecomes ws k items made
        → Becomes ws (value.Array items) (array size k) (Array made)
    -- a struct value, in a struct that has its members; those left out come from the struct's default, if there are any
    member_by_member : {parts given made : List MemberValue} {rest : Rest} {fields : List Field} → MembersBecome ws fields parts given → Completes ws rest given fields made
        → Becomes ws (value.Struct parts) (struct rest fields) (Struct made)
    -- a single value, in each part of an array
    in_each_part : {v : Opened} {size : ℕ} {k : Kind} {w : Value} → IsSingle v → Becomes ws v (of_kind k) w
        → Becomes ws v (array size k) (Array (replicate size w))
    -- and in each member of a struct
    in_each_member : {v : Opened} {rest : Rest} {fields : List Field} {made : List MemberValue} → IsSingle v → BecomesInEach ws v fields made
        → Becomes ws v (struct rest fields) (Struct made)
    in_plain : {v : Opened} {k : Kind} {w : Value} → IsPlain k → Becomes ws v (plain_target k) w → Becomes ws v (of_kind k) w
    -- an alias is its target
    in_named : {v : Opened} {i : ℕ} {f : Form} {w : Value} → HasForm ws i f → IsOfSize ws (kind.Named i) → Becomes ws v (form_target (OfStruct i) f) w
        → Becomes ws v (of_kind (kind.Named i)) w

  pub data EachBecomes (ws : List WrittenType) : Kind → List Value → List Value → Type 0 where
    none : {k : Kind} → EachBecomes ws k [] []
    more : {k : Kind} {v w : Value} {vs xs : List Value} → Becomes ws (opened v) (of_kind k) w → EachBecomes ws k vs xs → EachBecomes ws k (v ∷ vs) (w ∷ xs)

  -- each part is one of the members
  pub data MembersBecome (ws : List WrittenType) : List Field → List MemberValue → List MemberValue → Type 0 where
    no_part : {fields : List Field} → MembersBecome ws fields [] []
    part : {fields : List Field} {p : MemberValue} {f : Field} {w : Value} {ps given : List MemberValue} → member_named fields p.name ≡ Some f → Becomes ws (opened p.value) (member f) w
        → MembersBecome ws fields ps given → MembersBecome ws fields (p ∷ ps) (record { name = p.name; value = w } ∷ given)

  pub data BecomesInEach (ws : List WrittenType) : Opened → List Field → List MemberValue → Type 0 where
    no_member : {v : Opened} → BecomesInEach ws v [] []
    in_member : {v : Opened} {f : Field} {w : Value} {fs : List Field} {made : List MemberValue} → Becomes ws v (member f) w
        → BecomesInEach ws v fs made → BecomesInEach ws v (f ∷ fs) (part_for f w ∷ made)

  -- each member has the value that is given for its name, or, where none is given, that of the rest
  pub data Completes (ws : List WrittenType) : Rest → List MemberValue → List Field → List MemberValue → Type 0 where
    no_field : {rest : Rest} {given : List MemberValue} → Completes ws rest given [] []
    given_here : {rest : Rest} {given made : List MemberValue} {f : Field} {fs : List Field} {w : Value} → value_named given f.name ≡ Some w
        → Completes ws rest given fs made → Completes ws rest given (f ∷ fs) (part_for f w ∷ made)
    left_out : {rest : Rest} {given made : List MemberValue} {f : Field} {fs : List Field} {w : Value} → value_named given f.name ≡ None → Rests ws rest f w
        → Completes ws rest given fs made → Completes ws rest given (f ∷ fs) (part_for f w ∷ made)

  -- the value of a member that is left out
  pub data Rests (ws : List WrittenType) : Rest → Field → Value → Type 0 where
    in_struct : {i : ℕ} {f : Field} {d w : Value} → Default ws (of_kind (kind.Named i)) d → value_named (parts_in d) f.name ≡ Some w → Rests ws (OfStruct i) f w
    in_type : {f : Field} {w : Value} → Default ws (member f) w → Rests ws OfMembers f w

  pub data Default (ws : List WrittenType) : Target → Value → Type 0 where
    zero : {low high : ℤ} → Default ws (integer low high) (Int (pos 0))
    untrue : Default ws truth (Truth false)
    empty : Default ws words (Text [])
    repeated : {size : ℕ} {k : Kind} {w : Value} → Default ws (of_kind k) w → Default ws (array size k) (Array (replicate size w))
    -- a struct value that leaves out all members
    of_each : {fields : List Field} {made : List MemberValue} → Completes ws OfMembers [] fields made → Default ws (struct OfMembers fields) (Struct made)
    first : {c : Constant} {cs : List Constant} → Default ws (constants (c ∷ cs)) c.value
    the_one : Default ws opaque Opaque
    plainly : {k : Kind} {w : Value} → IsPlain k → Default ws (plain_target k) w → Default ws (of_kind k) w
    -- a type of the source without a default of its own: that of its form
    by_form : {i : ℕ} {f : Form} {w : Value} → HasForm ws i f → IsOfSize ws (kind.Named i) → HasOwn ws i own.Unwritten → Default ws (form_target OfMembers f) w
        → Default ws (of_kind (kind.Named i)) w
    -- and with one: what it becomes, where members that it leaves out have the defaults of their types
    by_value : {i : ℕ} {f : Form} {v w : Value} → HasForm ws i f → IsOfSize ws (kind.Named i) → HasOwn ws i (own.Has v) → Becomes ws (opened v) (form_target OfMembers f) w
        → Default ws (of_kind (kind.Named i)) w

abbrev pub Converts : List WrittenType → Value → Kind → Value → Type 0
Converts ws v k w = Becomes ws (opened v) (of_kind k) w

abbrev pub DefaultIs : List WrittenType → Kind → Value → Type 0
DefaultIs ws k w = Default ws (of_kind k) w
