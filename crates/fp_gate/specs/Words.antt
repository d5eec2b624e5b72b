-- The two words as the threads see them: counts modulo 2 ^ 64.
use Rattle.std.specs.Prelude.{◌≡◌, ℕ, ◌+◌, ◌-◌, ◌%◌, ◌^◌, ◌<◌, List, slice_index, Option, Some, true}
use mathlib.Core.Option.{some}
use lib.ListN.{get_elem?}
use Rattle.atomic_table.specs.Table.{State}
use Rattle.fp_gate.specs.declared.booked.Entry.{Entry}
use Rattle.fp_gate.specs.declared.view.View.{View}
use Rattle.fp_gate.specs.Views.{waiting}
use Rattle.fp_gate.specs.Rule.{Ruled}

-- how far `later` is ahead of `earlier`, modulo 2 ^ 64
abbrev pub ahead : ℕ → ℕ → ℕ
ahead earlier later = (later + (2 ^ 64 - earlier)) % 2 ^ 64

module _ {T N I : Type 0} where
  abbrev pub ticket : State (Option T) (View N I) → ℕ
  ticket s = slice_index s.words 0

  abbrev pub serving : State (Option T) (View N I) → ℕ
  serving s = slice_index s.words 1

module _ {T N I : Type 0} (name : T → N) (history : T → List (Entry I)) where
  -- `ticket` is as far ahead of `serving` as there are views with a ticket, each ticket out is less far ahead, no two tickets are equally far ahead, and that of the view in its turn is `serving`
  abbrev pub CountsModulo : Type 0
  CountsModulo = (n : N) (s : State (Option T) (View N I)) → Ruled name history n s
      → (ahead (serving s) (ticket s) ≡ waiting s.views)
      × ((j k : ℕ) (v : View N I) → get_elem? s.views j ≡ some v → v.ticket ≡ Some k → ahead (serving s) (k % 2 ^ 64) < waiting s.views)
      × ((i j k l : ℕ) (v w : View N I) → get_elem? s.views i ≡ some v → get_elem? s.views j ≡ some w → v.ticket ≡ Some k → w.ticket ≡ Some l
      → ahead (serving s) (k % 2 ^ 64) ≡ ahead (serving s) (l % 2 ^ 64) → i ≡ j)
      × ((j : ℕ) (v : View N I) → get_elem? s.views j ≡ some v → v.in_turn ≡ true → (k : ℕ) × (v.ticket ≡ Some k) × (k % 2 ^ 64 ≡ serving s))
