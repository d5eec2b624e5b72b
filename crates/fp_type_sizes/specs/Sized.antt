-- What is found of sizes from a table of those that were found before.
use Rattle.std.specs.Prelude.{◌≡◌, ℕ, ◌+◌, ◌*◌, ◌<◌, min, max, Bool, true, false, not, List, length, Option, Some, None, option_map, slice_get, nat_lt, ◌&&◌}
use Rattle.fp_tables.specs.Types.{is_integer_kind}
use Rattle.fp_tables.specs.declared.kind.Kind.{Kind}
use Rattle.fp_tables.specs.declared.kind.Kind.TheVariants as kind
use Rattle.fp_type_sizes.specs.declared.written.WrittenType.{WrittenType}
use Rattle.fp_type_sizes.specs.declared.written.Size.{Size}
use Rattle.fp_type_sizes.specs.declared.written.TypeExtent.{TypeExtent}
use Rattle.fp_type_sizes.specs.Sizes.{Measures}
use Rattle.fp_type_sizes.specs.Found.{UsesType, IsSize, IsExtent}

abbrev pub joined : Option (Option TypeExtent) → Option TypeExtent
joined None = None
joined (Some o) = o

abbrev pub leaf : Kind → TypeExtent
leaf k = record { size = record { leaves = 1; levels = 1 }; end = k }

-- what the table has of a type
abbrev pub kind_extent : List (Option TypeExtent) → Kind → Option TypeExtent
kind_extent table (kind.Named i) = joined (slice_get table i)
kind_extent table k = Some (leaf k)

abbrev pub ends_in_integer : Option TypeExtent → Bool
ends_in_integer None = false
ends_in_integer (Some x) = is_integer_kind x.end

-- so many of one beside one another, one more behind others, and what a struct is whose members these are
abbrev pub times : ℕ → Size → Size
times n s = record { leaves = min (n * s.leaves) 65537; levels = min (s.levels + 1) 65 }

abbrev pub beside : Size → Size → Size
beside s t = record { leaves = min (s.leaves + t.leaves) 65537; levels = max s.levels t.levels }

abbrev pub within : Size → Size
within s = record { leaves = max 1 s.leaves; levels = min (s.levels + 1) 65 }

abbrev pub with_end : Kind → Size → TypeExtent
with_end k s = record { size = s; end = k }

abbrev pub size_in : Option TypeExtent → Option Size
size_in o = option_map (λ (x : TypeExtent). x.size) o

abbrev pub member_size : Option ℕ → Option Size → Option Size
member_size None o = o
member_size (Some n) o = option_map (times n) o

-- not too large
abbrev pub is_few : Size → Bool
is_few s = nat_lt s.leaves 65537 && nat_lt s.levels 65

abbrev pub is_few_if : Option TypeExtent → Bool
is_few_if None = false
is_few_if (Some x) = is_few x.size

abbrev pub is_large_if : Option TypeExtent → Bool
is_large_if None = false
is_large_if (Some x) = not (is_few x.size)

-- what the table has is right
abbrev pub AreSoundExtents : List WrittenType → List (Option TypeExtent) → Type 0
AreSoundExtents ws table = (i : ℕ) (x : TypeExtent) → slice_get table i ≡ Some (Some x) → IsExtent ws (kind.Named i) x

-- and it misses no size of the types that stand in these places, or that a type uses
abbrev pub MissesNone : List WrittenType → List (Option TypeExtent) → List Kind → Type 0
MissesNone ws table ks = (n j a b : ℕ) → slice_get ks n ≡ Some (kind.Named j) → Measures ws (kind.Named j) a b → (x : TypeExtent) × (slice_get table j ≡ Some (Some x))

abbrev pub MissesNoUse : List WrittenType → List (Option TypeExtent) → ℕ → Type 0
MissesNoUse ws table v = (w a b : ℕ) → UsesType ws v w → Measures ws (kind.Named w) a b → (x : TypeExtent) × (slice_get table w ≡ Some (Some x))

-- it is the size, where there is one; that none is missed needs what is named first
pub record FindsSize (full : Type 0) (P : ℕ → ℕ → Type 0) (o : Option Size) : Type 0 where
  pub holds : (s : Size) → o ≡ Some s → (a : ℕ) × (b : ℕ) × P a b × IsSize a b s
  pub only : full → (a b : ℕ) → P a b → (s : Size) × (o ≡ Some s)

pub record FindsExtent (full : Type 0) (ws : List WrittenType) (k : Kind) (o : Option TypeExtent) : Type 0 where
  pub holds : (x : TypeExtent) → o ≡ Some x → IsExtent ws k x
  pub only : full → (a b : ℕ) → Measures ws k a b → (x : TypeExtent) × (o ≡ Some x)

-- a table in which the first so many types of an order have their sizes
pub record SizedFirst (ws : List WrittenType) (order : List ℕ) (k : ℕ) (table : List (Option TypeExtent)) : Type 0 where
  pub each : length table ≡ length ws
  pub sound : AreSoundExtents ws table
  pub done : (j v a b : ℕ) → j < k → slice_get order j ≡ Some v → Measures ws (kind.Named v) a b → (x : TypeExtent) × (slice_get table v ≡ Some (Some x))
