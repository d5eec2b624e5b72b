-- When a list of entries is fitting: what its text alone can show of a run.
-- The form of the log is this profile's own.
use Rattle.std.specs.Prelude.{◌≡◌, ℕ, Bool, true, false, ◌&&◌, ◌^◌, nat_lt, List, [], ◌∷◌, ◌++◌, Option, Some, None, option_map, slice_get}
use Rattle.std.specs.List.{list_all}
use Rattle.fp_base.specs.declared.value.Value.{Value}
use Rattle.fp_tables.specs.Lists.{if_some, some_and}
use Rattle.fp_tables.specs.Lookup.{Described}
use Rattle.fp_tables.specs.Types.{has_kind, have_kinds}
use Rattle.fp_tables.specs.declared.kind.Kind.{Kind}
use Rattle.fp_tables.specs.declared.component.Channel.{Channel}
use Rattle.fp_tables.specs.declared.component.Param.{Param}
use Rattle.fp_tables.specs.declared.program.Program.{Program}
use Rattle.fp_tables.specs.declared.model.Model.{Model}
use Rattle.fp_events.specs.Answers.{arrival_in}
use Rattle.fp_events.specs.Fits.{place_kinds, saved_kind}
use Rattle.fp_tables.specs.Specials.{component}
use Rattle.fp_events.specs.Manners.{manner}
use Rattle.fp_events.specs.Run.{by}
use Rattle.fp_events.specs.declared.event.Point.{Point}
use Rattle.fp_events.specs.declared.event.Arrival.{Arrival}
use Rattle.fp_events.specs.declared.event.What.{What}
use Rattle.fp_events.specs.declared.event.What.TheVariants as what
use Rattle.fp_events.specs.declared.event.Entry.{Entry}
use Rattle.fp_run_laws.specs.Notes.{note_fits}
use Rattle.fp_run_laws.specs.Suits.{results_from, returns_fit}
use Rattle.fp_logtext.specs.Named.{are_named, set_and_save_commands}

-- ---- notes

abbrev pub notes_fit : Model → What → Bool
notes_fit m w = if_some (λ (r : Arrival). note_fits m r.origin) (arrival_in w)

-- ---- values

abbrev pub is_empty : List Value → Bool
is_empty [] = true
is_empty (v ∷ vs) = false

-- the arrival of a save has no value
abbrev pub saves_alone : What → Bool
saves_alone (what.Save r v) = is_empty r.with
saves_alone _ = true

module _ (t : Described) (program : Program) where
  abbrev pub is_of : Option Kind → Value → Bool
  is_of k v = some_and (λ j. has_kind t.model.types j v) k

  -- one value for each that the point takes, of its kind
  abbrev pub suit_point : ℕ → Point → List Value → Bool
  suit_point i point vs = some_and (λ ks. have_kinds t.model.types ks vs) (place_kinds t program i point)

  -- each value that isn't returned has the kind that its point, channel or parameter gives it
  abbrev pub values_fit : ℕ → What → Bool
  values_fit i (what.Enter r) = suit_point i r.point r.with
  values_fit i (what.Guard r) = suit_point i r.point r.with
  values_fit i (what.Put number r) = suit_point i r.point r.with
  values_fit i (what.Dropped r) = suit_point i r.point r.with
  values_fit i (what.Hooked r) = suit_point i r.point r.with
  values_fit i (what.Asserted r) = suit_point i r.point r.with
  values_fit i (what.Set r) = suit_point i r.point r.with
  values_fit i (what.Save r v) = suit_point i r.point r.with && is_of (saved_kind t program i (manner t i r.point)) v
  values_fit i (what.Take number point vs) = suit_point i point vs
  values_fit i (what.Write channel became v) = is_of (option_map (λ (c : Channel). c.kind) (slice_get (component t i).channels channel)) v
  values_fit i (what.Read param v) = is_of (option_map (λ (p : Param). p.kind) (slice_get (component t i).params param)) v
  values_fit i _ = true

-- ---- numbers

abbrev pub is_of_64_bits : ℕ → Bool
is_of_64_bits n = nat_lt n (2 ^ 64)

-- the number of a put or a take
abbrev pub number_in : What → ℕ
number_in (what.Put number r) = number
number_in (what.Take number point vs) = number
number_in _ = 0

abbrev pub numbers_fit : Entry → Bool
numbers_fit e = is_of_64_bits e.stamp && is_of_64_bits (number_in e.what)

pub record IsFitting (t : Described) (program : Program) (es : List Entry) : Type 0 where
  -- each position names something
  pub named : are_named t program es ≡ true
  -- the point of a set is a set command, and that of a save a save command
  pub commands : set_and_save_commands t es ≡ true
  pub alone : list_all (λ (e : Entry). saves_alone e.what) es ≡ true
  -- stamps and numbers of calls are of 64 bits
  pub numbers : list_all numbers_fit es ≡ true
  pub notes : list_all (λ (e : Entry). notes_fit t.model e.what) es ≡ true
  pub values : list_all (λ (e : Entry). values_fit t program e.instance e.what) es ≡ true
  -- frames pair as brackets in an actor's entries
  pub returned : (before rest : List Entry) (e : Entry) → es ≡ before ++ e ∷ rest → returns_fit t (results_from t [] (by e.actor before)) e.what ≡ true
