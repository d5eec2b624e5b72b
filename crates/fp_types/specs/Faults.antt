-- Why a value becomes nothing in a type: what the two meet where they are walked together as far as their forms agree.
use Rattle.std.specs.Prelude.{Result, Ok, Err, ◌≡◌, ℕ, Bool, true, false, not, is_none, int_le, ◌&&◌, List, length, nat_eq, slice_get, Some}
use Rattle.std.specs.List.{list_any}
use Rattle.fp_base.specs.Same.{same}
use Rattle.fp_base.specs.declared.place.Place.{Place}
use Rattle.fp_base.specs.declared.refusal.Refusal.{Refusal}
use Rattle.fp_base.specs.declared.rule.Rule.TheVariants.{BadConversion, OutsideType, BadMember}
use Rattle.fp_base.specs.declared.value.Value.{Value, Enumerated}
use Rattle.fp_base.specs.declared.value.Value.TheOpen as value
use Rattle.fp_base.specs.declared.value.MemberValue.{MemberValue}
use Rattle.fp_tables.specs.declared.kind.Kind.{Kind}
use Rattle.fp_tables.specs.declared.kind.Kind.TheVariants as kind
use Rattle.fp_tables.specs.declared.kind.Form.{Form}
use Rattle.fp_tables.specs.declared.kind.Field.{Field}
use Rattle.fp_tables.specs.declared.kind.Constant.{Constant}
use Rattle.fp_base.specs.Least.{broken_at}
use Rattle.fp_type_sizes.specs.declared.written.WrittenType.{WrittenType}
use Rattle.fp_type_sizes.specs.Sizes.{IsPlain, HasForm, IsOfSize}
use Rattle.fp_types.specs.Converting.{Converts, HasOwn, Opened, opened, IsSingle, Target, integer, truth, words, array, struct, constants, opaque, of_kind, plain_target, form_target, member, member_named}
use Rattle.fp_type_sizes.specs.declared.written.Own.TheVariants as own
use Rattle.fp_types.specs.declared.unfit.Unfit.{Unfit}
use Rattle.fp_types.specs.declared.unfit.Unfit.TheVariants as unfit
use Rattle.fp_types.specs.declared.target.Rest.{Rest}
use Rattle.fp_types.specs.declared.target.Rest.TheVariants.{OfStruct, OfMembers}

-- a value and a type meet what the test holds of. The form of an array has its length in it, and a single value is met in each part of an
-- array or struct. A type that is too large, or of which a part doesn't exist, is met by nothing
pub data Meets (ws : List WrittenType) (test : Opened → Target → Bool) : Opened → Target → Type 0 where
  here : {v : Opened} {t : Target} → test v t ≡ true → Meets ws test v t
  in_part : {items : List Value} {size : ℕ} {k : Kind} {v : Value} (i : ℕ) → length items ≡ size → slice_get items i ≡ Some v → Meets ws test (opened v) (of_kind k)
      → Meets ws test (value.Array items) (array size k)
  in_member : {parts : List MemberValue} {rest : Rest} {fields : List Field} {p : MemberValue} {f : Field} (i : ℕ) → slice_get parts i ≡ Some p → member_named fields p.name ≡ Some f
      → Meets ws test (opened p.value) (member f) → Meets ws test (value.Struct parts) (struct rest fields)
  single_in_part : {v : Opened} {size : ℕ} {k : Kind} → IsSingle v → Meets ws test v (of_kind k) → Meets ws test v (array size k)
  single_in_member : {v : Opened} {rest : Rest} {fields : List Field} {f : Field} (i : ℕ) → IsSingle v → slice_get fields i ≡ Some f → Meets ws test v (member f)
      → Meets ws test v (struct rest fields)
  in_plain : {v : Opened} {k : Kind} → IsPlain k → Meets ws test v (plain_target k) → Meets ws test v (of_kind k)
  in_named : {v : Opened} {i : ℕ} {f : Form} → HasForm ws i f → IsOfSize ws (kind.Named i) → Meets ws test v (form_target (OfStruct i) f) → Meets ws test v (of_kind (kind.Named i))

-- a struct value names a member that the struct lacks
abbrev pub lacks_member : Opened → Target → Bool
lacks_member (value.Struct parts) (struct rest fields) = list_any (λ (p : MemberValue). is_none (member_named fields p.name)) parts
lacks_member _ _ = false

-- an integer, or the number of an enumerated constant, isn't in the integer type
abbrev pub is_outside : Opened → Target → Bool
is_outside (value.Int n) (integer low high) = not (int_le low n && int_le n high)
is_outside (value.Enumerated of name n) (integer low high) = not (int_le low n && int_le n high)
is_outside _ _ = false

-- an integer or enumerated constant
abbrev pub is_number : Opened → Bool
is_number (value.Int n) = true
is_number (value.Enumerated of name n) = true
is_number _ = false

abbrev pub is_truth : Opened → Bool
is_truth (value.Bool b) = true
is_truth _ = false

abbrev pub is_words : Opened → Bool
is_words (value.Text t) = true
is_words _ = false

-- one of the constants of the enumeration
abbrev pub is_among : List Constant → Opened → Bool
is_among cs (value.Enumerated of name n) = among (Enumerated of name n)
  where
    among : Value → Bool
    among v = list_any (λ (x : Constant). same x.value v) cs
is_among cs _ = false

-- an array value of the length, or a single value
abbrev pub suits_array : ℕ → Opened → Bool
suits_array size (value.Array items) = nat_eq (length items) size
suits_array size (value.Struct parts) = false
suits_array size value.Opaque = false
suits_array size _ = true

-- a struct value, or a single value
abbrev pub suits_struct : Opened → Bool
suits_struct (value.Array items) = false
suits_struct value.Opaque = false
suits_struct _ = true

-- the form of the value isn't that of the type
abbrev pub differs : Opened → Target → Bool
differs v (integer low high) = not (is_number v)
differs v truth = not (is_truth v)
differs v words = not (is_words v)
differs v (array size k) = not (suits_array size v)
differs v (struct rest fields) = not (suits_struct v)
differs v (constants cs) = not (is_among cs v)
differs v opaque = true
differs v (of_kind k) = false

-- V11, V7 or V6 at an expression with the value: Member before Range, and Range before Shape. A value that would need a default that doesn't
-- exist, and meets none of these, breaks no rule
pub data Misfits (ws : List WrittenType) (place : Place) (v : Opened) (t : Target) : Refusal → Type 0 where
  by_member : Meets ws lacks_member v t → Misfits ws place v t (broken_at BadMember place)
  by_range : ¬ Meets ws lacks_member v t → Meets ws is_outside v t → Misfits ws place v t (broken_at OutsideType place)
  by_shape : ¬ Meets ws lacks_member v t → ¬ Meets ws is_outside v t → Meets ws differs v t → Misfits ws place v t (broken_at BadConversion place)

-- V11, V7 or V6 at a type's own default, which has a value that doesn't convert to the type
pub record IsBadDefault (ws : List WrittenType) (i : ℕ) (place : Place) (f : Refusal) : Type 0 where
  pub value : Value
  pub has : HasOwn ws i (own.Has value)
  pub shape : Form
  pub form : HasForm ws i shape
  pub of_size : IsOfSize ws (kind.Named i)
  pub misfits : Misfits ws place (opened value) (form_target OfMembers shape) f

module _ (ws : List WrittenType) (v : Value) (k : Kind) where
  abbrev pub MeetsMember : Type 0
  MeetsMember = Meets ws lacks_member (opened v) (of_kind k)

  abbrev pub MeetsRange : Type 0
  MeetsRange = Meets ws is_outside (opened v) (of_kind k)

  abbrev pub MeetsShape : Type 0
  MeetsShape = Meets ws differs (opened v) (of_kind k)

  abbrev pub ConvertsToNothing : Type 0
  ConvertsToNothing = (w : Value) → Converts ws v k w → ⊥

  -- the cause that a value converts to nothing: Member before Range, and Range before Shape
  abbrev pub IsCause : Unfit → Type 0
  IsCause unfit.Member = MeetsMember
  IsCause unfit.Range = (MeetsMember → ⊥) × MeetsRange
  IsCause unfit.Shape = (MeetsMember → ⊥) × (MeetsRange → ⊥)
  IsCause unfit.NoMemory = ⊥

  -- what the value becomes, or the cause that it becomes nothing
  abbrev pub Converted : Result Value Unfit → Type 0
  Converted (Ok w) = Converts ws v k w
  Converted (Err unfit.NoMemory) = Unit {0}
  Converted (Err u) = ConvertsToNothing × IsCause u
