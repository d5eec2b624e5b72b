-- What is found of defaults from a table of those that were found before.
use Rattle.std.specs.Prelude.{◌≡◌, ℕ, ◌<◌, List, length, Option, Some, None, option_map, slice_get}
use Rattle.fp_base.specs.declared.value.Value.{Value}
use Rattle.fp_tables.specs.Types.{kinds_in}
use Rattle.fp_tables.specs.declared.kind.Kind.{Kind}
use Rattle.fp_tables.specs.declared.kind.Kind.TheVariants as kind
use Rattle.fp_tables.specs.declared.kind.Form.{Form}
use Rattle.fp_tables.specs.declared.kind.TypeDef.{TypeDef}
use Rattle.fp_type_sizes.specs.declared.written.WrittenType.{WrittenType}
use Rattle.fp_type_sizes.specs.declared.written.Own.{Own}
use Rattle.fp_type_sizes.specs.declared.written.Own.TheVariants as own
use Rattle.fp_types.specs.declared.target.Rest.TheVariants.{OfMembers}
use Rattle.fp_type_sizes.specs.Found.{LeadsTo}
use Rattle.fp_types.specs.Converting.{opened, form_target, DefaultIs, Converts}
use Rattle.fp_types.specs.Making.{AreSoundDefaults, HasDefault, HasDefaultsIn, SufficesIn, IsMade, IsDefault}

-- no default of what a form uses is missed
abbrev pub HasDefaultsInForm : List WrittenType → List (Option Value) → Form → Type 0
HasDefaultsInForm ws table f = (at : ℕ) (k : Kind) → slice_get (kinds_in f) at ≡ Some k → HasDefaultsIn ws table k

abbrev pub MissesNoDefault : List WrittenType → List (Option Value) → ℕ → Type 0
MissesNoDefault ws table v = (w : ℕ) → LeadsTo ws v w → HasDefault ws table w

-- it is the default, where there is one; that none is missed needs that none was before
pub record FindsDefault (ws : List WrittenType) (table : List (Option Value)) (v : ℕ) (o : Option Value) : Type 0 where
  pub holds : (x : Value) → o ≡ Some x → DefaultIs ws (kind.Named v) x
  pub only : MissesNoDefault ws table v → (x : Value) → DefaultIs ws (kind.Named v) x → o ≡ Some x

-- the same of a form, by what stands behind `default`
abbrev pub FindsBy : List WrittenType → List (Option Value) → Own → Form → Option Value → Type 0
FindsBy ws table own.Unwritten f o = IsDefault ws (HasDefaultsInForm ws table f) (form_target OfMembers f) o
FindsBy ws table own.NoValue f o = o ≡ None
FindsBy ws table (own.Has v) f o = IsMade ws (SufficesIn ws table 64 (form_target OfMembers f)) (opened v) (form_target OfMembers f) o

-- a table in which the first so many types of an order have their defaults
pub record DefaultedFirst (ws : List WrittenType) (order : List ℕ) (k : ℕ) (table : List (Option Value)) : Type 0 where
  pub each : length table ≡ length ws
  pub sound : AreSoundDefaults ws table
  pub done : (j v : ℕ) → j < k → slice_get order j ≡ Some v → HasDefault ws table v

-- it is what the value becomes, if it becomes anything
pub record ConvertsIf (ws : List WrittenType) (v : Value) (k : Kind) (o : Option Value) : Type 0 where
  pub holds : (w : Value) → o ≡ Some w → Converts ws v k w
  pub only : (w : Value) → Converts ws v k w → o ≡ Some w

-- a type with its form and its default, where both exist
abbrev pub given_of : WrittenType → Option Value → Option TypeDef
given_of w None = None
given_of w (Some v) = option_map (λ (f : Form). record { name = w.name; form = f; default = v; note = w.note }) w.form
