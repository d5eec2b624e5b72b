-- How large types are found to be, in an order in which those that one uses stand before it.
use Rattle.std.specs.Prelude.{◌≡◌, ℕ, ◌<◌, min, List, length, Option, Some, slice_get}
use Rattle.std.specs.List.{Contains}
use Rattle.fp_tables.specs.Types.{kinds_in}
use Rattle.fp_tables.specs.declared.kind.Kind.{Kind}
use Rattle.fp_tables.specs.declared.kind.Kind.TheVariants as kind
use Rattle.fp_tables.specs.declared.kind.Form.{Form}
use Rattle.fp_type_sizes.specs.declared.written.WrittenType.{WrittenType}
use Rattle.fp_type_sizes.specs.declared.written.Size.{Size}
use Rattle.fp_type_sizes.specs.declared.written.TypeExtent.{TypeExtent}
use Rattle.fp_type_sizes.specs.Sizes.{HasForm, EndsAs, Measures}

-- a type uses another in its form
pub record UsesType (ws : List WrittenType) (i j : ℕ) : Type 0 where
  pub shape : Form
  pub form : HasForm ws i shape
  pub at : ℕ
  pub used : slice_get (kinds_in shape) at ≡ Some (kind.Named j)

-- from the one to the other in one use after another, at least one
pub data LeadsTo (ws : List WrittenType) : ℕ → ℕ → Type 0 where
  one : {i j : ℕ} → UsesType ws i j → LeadsTo ws i j
  more : {i j k : ℕ} → UsesType ws i j → LeadsTo ws j k → LeadsTo ws i k

-- each type, those that one uses before it where it has a size. A type that has none may stand anywhere: it leads to a part that doesn't exist,
-- or is on a cycle or leads to one, and nothing is found of it
pub record IsTypeOrder (ws : List WrittenType) (order : List ℕ) : Type 0 where
  pub all : (v : ℕ) → v < length ws → (k : ℕ) × (slice_get order k ≡ Some v)
  pub within : (k v : ℕ) → slice_get order k ≡ Some v → v < length ws
  pub behind : (k v w a b : ℕ) → slice_get order k ≡ Some v → Measures ws (kind.Named v) a b → UsesType ws v w → (j : ℕ) × (j < k) × (slice_get order j ≡ Some w)

-- the leaves and levels, to the first numbers that are too large
pub record IsSize (a b : ℕ) (s : Size) : Type 0 where
  pub leaves : s.leaves ≡ min a 65537
  pub levels : s.levels ≡ min b 65

-- a type's size, and what it is behind its aliases
pub record IsExtent (ws : List WrittenType) (k : Kind) (x : TypeExtent) : Type 0 where
  pub leaves : ℕ
  pub levels : ℕ
  pub measures : Measures ws k leaves levels
  pub size : IsSize leaves levels x.size
  pub ends : EndsAs ws k x.end

-- it is the size, if there is one
pub record IsExtentIf (ws : List WrittenType) (k : Kind) (o : Option TypeExtent) : Type 0 where
  pub holds : (x : TypeExtent) → o ≡ Some x → IsExtent ws k x
  pub only : (a b : ℕ) → Measures ws k a b → (x : TypeExtent) × (o ≡ Some x)

pub record AreExtents (ws : List WrittenType) (table : List (Option TypeExtent)) : Type 0 where
  pub each : length table ≡ length ws
  pub at : (i : ℕ) (o : Option TypeExtent) → slice_get table i ≡ Some o → IsExtentIf ws (kind.Named i) o

-- rows of numbers, each with the numbers that one uses
abbrev pub UsesIn : List (List ℕ) → ℕ → ℕ → Type 0
UsesIn uses from to = (targets : List ℕ) × (slice_get uses from ≡ Some targets) × Contains targets to

pub data LeadsIn (uses : List (List ℕ)) : ℕ → ℕ → Type 0 where
  once : {from to : ℕ} → UsesIn uses from to → LeadsIn uses from to
  again : {from between to : ℕ} → UsesIn uses from between → LeadsIn uses between to → LeadsIn uses from to

-- what the types use of each other: all that stands in their forms, and of a type whose form exists nothing else
pub record AreTypeUses (ws : List WrittenType) (uses : List (List ℕ)) : Type 0 where
  pub covers : (i j : ℕ) → UsesType ws i j → UsesIn uses i j
  pub formed : (i j : ℕ) (f : Form) → HasForm ws i f → UsesIn uses i j → UsesType ws i j

-- each of so many, those that one uses before it unless it is on a cycle
pub record IsSortedBy (uses : List (List ℕ)) (count : ℕ) (order : List ℕ) : Type 0 where
  pub all : (v : ℕ) → v < count → (k : ℕ) × (slice_get order k ≡ Some v)
  pub within : (k v : ℕ) → slice_get order k ≡ Some v → v < count
  pub behind : (k v w : ℕ) → slice_get order k ≡ Some v → ¬ LeadsIn uses v v → UsesIn uses v w → (j : ℕ) × (j < k) × (slice_get order j ≡ Some w)
