-- The members of a struct from what is given and the rest, and what isn't missed of the rest.
use Rattle.std.specs.Prelude.{◌≡◌, ℕ, pos, false, List, [], ◌∷◌, Option, Some, None, slice_get}
use Rattle.std.specs.Option.{option_flatten}
use Rattle.fp_base.specs.declared.value.Value.{Value, Int, Bool as Truth, Text}
use Rattle.fp_tables.specs.declared.kind.Kind.{Kind}
use Rattle.fp_tables.specs.declared.kind.Kind.TheVariants as kind
use Rattle.fp_base.specs.declared.value.MemberValue.{MemberValue}
use Rattle.fp_tables.specs.declared.kind.Field.{Field}
use Rattle.fp_type_sizes.specs.declared.written.WrittenType.{WrittenType}
use Rattle.fp_types.specs.declared.target.Rest.{Rest}
use Rattle.fp_types.specs.declared.target.Rest.TheVariants.{OfStruct, OfMembers}
use Rattle.fp_types.specs.Converting.{parts_in, value_named, Rests}
use Rattle.fp_types.specs.Making.{HasDefault, HasDefaultsIn}

abbrev pub default_at : List (Option Value) → ℕ → Option Value
default_at defaults i = option_flatten (slice_get defaults i)

abbrev pub position_in : Kind → Option ℕ
position_in (kind.Named i) = Some i
position_in _ = None

-- the default of a type that isn't one of the source
abbrev pub plain_default : Kind → Value
plain_default kind.Bool = Truth false
plain_default (kind.Str size) = Text []
plain_default _ = Int (pos 0)

abbrev pub SufficesForLeft : List WrittenType → List (Option Value) → Rest → Field → Type 0
SufficesForLeft ws defaults (OfStruct i) f = HasDefault ws defaults i
SufficesForLeft ws defaults OfMembers f = HasDefaultsIn ws defaults f.kind

abbrev pub SufficesForLefts : List WrittenType → List (Option Value) → Rest → List Field → Type 0
SufficesForLefts ws defaults rest [] = Unit {0}
SufficesForLefts ws defaults rest (f ∷ fs) = SufficesForLeft ws defaults rest f × SufficesForLefts ws defaults rest fs

-- the parts of a default
abbrev pub parts_if : Option Value → List MemberValue
parts_if None = []
parts_if (Some d) = parts_in d

-- and of the one from which members that are left out come
abbrev pub left_parts : List (Option Value) → Rest → List MemberValue
left_parts defaults (OfStruct i) = parts_if (default_at defaults i)
left_parts defaults OfMembers = []

-- the part of a default for a member
abbrev pub left_part : Field → Option Value → Option Value
left_part f o = value_named (parts_if o) f.name

-- the value of a member: the one that is given, or that of the rest
pub data MemberIs (ws : List WrittenType) (rest : Rest) (given : List MemberValue) (f : Field) : Value → Type 0 where
  given_here : {w : Value} → value_named given f.name ≡ Some w → MemberIs ws rest given f w
  left_out : {w : Value} → value_named given f.name ≡ None → Rests ws rest f w → MemberIs ws rest given f w

module _ (ws : List WrittenType) (full : Type 0) where
  abbrev pub IsRest : Rest → Field → Option Value → Type 0
  IsRest rest f (Some w) = Rests ws rest f w
  IsRest rest f None = full → (w : Value) → Rests ws rest f w → ⊥

  abbrev pub IsMember : Rest → List MemberValue → Field → Option Value → Type 0
  IsMember rest given f (Some w) = MemberIs ws rest given f w
  IsMember rest given f None = full → (w : Value) → MemberIs ws rest given f w → ⊥
