-- What a walk through a type finds with so many levels left, from what was found of sizes and defaults: what a value becomes, or, where the levels
-- reach and no default is missed, that it becomes nothing.
use Rattle.std.specs.Prelude.{◌≡◌, ℕ, ◌-◌, ◌≤◌, ℤ, int_le, cond, ◌&&◌, Bool, false, replicate, List, [], ◌∷◌, Option, Some, None, slice_get}
use Rattle.std.specs.List.{list_any}
use Rattle.fp_base.specs.Same.{same}
use Rattle.fp_base.specs.declared.value.Value.{Value, Int, Bool as Truth, Text, Enumerated, Array, Struct}
use Rattle.fp_base.specs.declared.value.Value.TheOpen as value
use Rattle.fp_base.specs.declared.value.MemberValue.{MemberValue}
use Rattle.fp_tables.specs.declared.kind.Kind.{Kind}
use Rattle.fp_tables.specs.declared.kind.Kind.TheVariants as kind
use Rattle.fp_tables.specs.declared.kind.Constant.{Constant}
use Rattle.fp_tables.specs.declared.kind.Field.{Field}
use Rattle.fp_type_sizes.specs.declared.written.WrittenType.{WrittenType}
use Rattle.fp_type_sizes.specs.declared.written.TypeExtent.{TypeExtent}
use Rattle.fp_types.specs.declared.target.Rest.{Rest}
use Rattle.fp_types.specs.declared.target.Rest.TheVariants.{OfStruct, OfMembers}
use Rattle.fp_type_sizes.specs.Sizes.{Measures}
use Rattle.fp_type_sizes.specs.Found.{UsesType, AreExtents}
use Rattle.fp_types.specs.Converting.{Opened, opened, Target, array, struct, of_kind, member, member_named, Becomes, EachBecomes, MembersBecome, BecomesInEach, Completes, Default, DefaultIs}
use Rattle.fp_types.specs.Faults.{Meets}

-- ---- what is known, and what isn't missed

abbrev pub AreSoundDefaults : List WrittenType → List (Option Value) → Type 0
AreSoundDefaults ws defaults = (i : ℕ) (w : Value) → slice_get defaults i ≡ Some (Some w) → DefaultIs ws (kind.Named i) w

pub record AreAtHand (ws : List WrittenType) (extents : List (Option TypeExtent)) (defaults : List (Option Value)) : Type 0 where
  pub sizes : AreExtents ws extents
  pub sound : AreSoundDefaults ws defaults

-- a type is this one, or leads to it through uses
pub data StandsIn (ws : List WrittenType) : Kind → ℕ → Type 0 where
  itself : {i : ℕ} → StandsIn ws (kind.Named i) i
  further : {i j m : ℕ} → UsesType ws i m → StandsIn ws (kind.Named m) j → StandsIn ws (kind.Named i) j

abbrev pub HasDefault : List WrittenType → List (Option Value) → ℕ → Type 0
HasDefault ws defaults i = (w : Value) → DefaultIs ws (kind.Named i) w → slice_get defaults i ≡ Some (Some w)

-- no default of what stands in a type is missed
abbrev pub HasDefaultsIn : List WrittenType → List (Option Value) → Kind → Type 0
HasDefaultsIn ws defaults k = (i : ℕ) → StandsIn ws k i → HasDefault ws defaults i

-- so many levels are enough
abbrev pub Enough : List WrittenType → ℕ → Kind → Type 0
Enough ws n k = (a b : ℕ) → Measures ws k a b → b ≤ n

pub record Suffices (ws : List WrittenType) (defaults : List (Option Value)) (n : ℕ) (k : Kind) : Type 0 where
  pub enough : Enough ws n k
  pub knows : HasDefaultsIn ws defaults k

abbrev pub SufficesEach : List WrittenType → List (Option Value) → ℕ → List Field → Type 0
SufficesEach ws defaults n [] = Unit {0}
SufficesEach ws defaults n (f ∷ fs) = Suffices ws defaults n f.kind × SufficesEach ws defaults n fs

abbrev pub SufficesForRest : List WrittenType → List (Option Value) → Rest → Type 0
SufficesForRest ws defaults (OfStruct i) = HasDefault ws defaults i
SufficesForRest ws defaults OfMembers = Unit {0}

abbrev pub SufficesForStruct : List WrittenType → List (Option Value) → ℕ → Rest → List Field → Type 0
SufficesForStruct ws defaults n rest fields = SufficesEach ws defaults n fields × SufficesForRest ws defaults rest

abbrev pub SufficesIn : List WrittenType → List (Option Value) → ℕ → Target → Type 0
SufficesIn ws defaults n (array size k) = Suffices ws defaults n k
SufficesIn ws defaults n (struct rest fields) = SufficesForStruct ws defaults n rest fields
SufficesIn ws defaults n (of_kind k) = Suffices ws defaults n k
SufficesIn ws defaults n _ = Unit {0}

abbrev pub EnoughEach : List WrittenType → ℕ → List Field → Type 0
EnoughEach ws n [] = Unit {0}
EnoughEach ws n (f ∷ fs) = Enough ws n f.kind × EnoughEach ws n fs

abbrev pub EnoughIn : List WrittenType → ℕ → Target → Type 0
EnoughIn ws n (array size k) = Enough ws n k
EnoughIn ws n (struct rest fields) = EnoughEach ws n fields
EnoughIn ws n (of_kind k) = Enough ws n k
EnoughIn ws n _ = Unit {0}

-- ---- values without parts, in types without parts

abbrev pub number_within : ℤ → ℤ → ℤ → Option Value
number_within low high n = cond (int_le low n && int_le n high) (Some (Int n)) None

abbrev pub as_integer : ℤ → ℤ → Opened → Option Value
as_integer low high (value.Int n) = number_within low high n
as_integer low high (value.Enumerated of name n) = number_within low high n
as_integer low high _ = None

abbrev pub as_truth : Opened → Option Value
as_truth (value.Bool b) = Some (Truth b)
as_truth _ = None

abbrev pub as_words : Opened → Option Value
as_words (value.Text t) = Some (Text t)
as_words _ = None

abbrev pub as_constant : List Constant → Opened → Option Value
as_constant cs (value.Enumerated of name n) = among (Enumerated of name n)
  where
    among : Value → Option Value
    among v = cond (list_any (λ (x : Constant). same x.value v) cs) (Some v) None
as_constant cs _ = None

-- ---- what stands in a value

abbrev pub items_of : Opened → Option (List Value)
items_of (value.Array items) = Some items
items_of _ = None

abbrev pub parts_of : Opened → Option (List MemberValue)
parts_of (value.Struct parts) = Some parts
parts_of _ = None

abbrev pub listed : List Value → Value
listed vs = Array vs

abbrev pub structured : List MemberValue → Value
structured ps = Struct ps

-- an array of one value so many times
abbrev pub repeated : ℕ → Value → Value
repeated size v = Array (replicate size v)

-- ---- all values

module _ (types : List WrittenType) (reached : Type 0) where
  abbrev pub IsMade : Opened → Target → Option Value → Type 0
  IsMade v t (Some w) = Becomes types v t w
  IsMade v t None = reached → (w : Value) → Becomes types v t w → ⊥

  abbrev pub IsMadeOfEach : Kind → List Value → Option (List Value) → Type 0
  IsMadeOfEach k vs (Some ws) = EachBecomes types k vs ws
  IsMadeOfEach k vs None = reached → (ws : List Value) → EachBecomes types k vs ws → ⊥

  -- a part of a struct value, in the member that it names
  abbrev pub IsMadeOfPart : List Field → MemberValue → Option Value → Type 0
  IsMadeOfPart fields p (Some w) = (f : Field) × (member_named fields p.name ≡ Some f) × Becomes types (opened p.value) (member f) w
  IsMadeOfPart fields p None = reached → (f : Field) (w : Value) → member_named fields p.name ≡ Some f → Becomes types (opened p.value) (member f) w → ⊥

  abbrev pub AreMadeOfMembers : List Field → List MemberValue → Option (List MemberValue) → Type 0
  AreMadeOfMembers fields ps (Some made) = MembersBecome types fields ps made
  AreMadeOfMembers fields ps None = reached → (made : List MemberValue) → MembersBecome types fields ps made → ⊥

  abbrev pub AreMadeInEach : Opened → List Field → Option (List MemberValue) → Type 0
  AreMadeInEach v fields (Some made) = BecomesInEach types v fields made
  AreMadeInEach v fields None = reached → (made : List MemberValue) → BecomesInEach types v fields made → ⊥

  abbrev pub AreCompleted : Rest → List MemberValue → List Field → Option (List MemberValue) → Type 0
  AreCompleted rest given fields (Some made) = Completes types rest given fields made
  AreCompleted rest given fields None = reached → (made : List MemberValue) → Completes types rest given fields made → ⊥

  abbrev pub IsDefault : Target → Option Value → Type 0
  IsDefault t (Some w) = Default types t w
  IsDefault t None = reached → (w : Value) → Default types t w → ⊥

-- ---- targets

-- what a type is, for every value
pub record OpensTo (ws : List WrittenType) (k : Kind) (t : Target) : Type 0 where
  pub up : (v : Opened) (w : Value) → Becomes ws v t w → Becomes ws v (of_kind k) w
  pub down : (v : Opened) (w : Value) → Becomes ws v (of_kind k) w → Becomes ws v t w
  pub inside : (defaults : List (Option Value)) (n : ℕ) → Suffices ws defaults n k → SufficesIn ws defaults (n - 1) t

-- and for all that a value and the type meet, by a test that doesn't hold of types by their kinds
abbrev pub PassesKinds : (Opened → Target → Bool) → Type 0
PassesKinds test = (v : Opened) (k : Kind) → test v (of_kind k) ≡ false

pub record MeetsThrough (ws : List WrittenType) (k : Kind) (t : Target) : Type 0 where
  pub up : (test : Opened → Target → Bool) (v : Opened) → Meets ws test v t → Meets ws test v (of_kind k)
  pub down : (test : Opened → Target → Bool) (v : Opened) → PassesKinds test → Meets ws test v (of_kind k) → Meets ws test v t
  pub enough : (n : ℕ) → Enough ws n k → EnoughIn ws (n - 1) t

abbrev pub IsMetThrough : List WrittenType → Kind → Option Target → Type 0
IsMetThrough ws k (Some t) = MeetsThrough ws k t
IsMetThrough ws k None = (test : Opened → Target → Bool) (v : Opened) → PassesKinds test → Meets ws test v (of_kind k) → ⊥

abbrev pub IsTargetOf : List WrittenType → Kind → Option Target → Type 0
IsTargetOf ws k (Some t) = OpensTo ws k t
IsTargetOf ws k None = (v : Opened) (w : Value) → Becomes ws v (of_kind k) w → ⊥
