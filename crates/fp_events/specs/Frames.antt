-- Which entries open a frame of their actor and which close one: frames as brackets in an actor's entries.
use Rattle.std.specs.Prelude.{◌≡◌, ℕ, Bool, true, false, cond, not, ◌&&◌, List, [], ◌∷◌, drop}
use Rattle.fp_events.specs.declared.event.What.{What}
use Rattle.fp_events.specs.declared.event.What.TheVariants as what
use Rattle.fp_events.specs.declared.event.Entry.{Entry}
use Rattle.fp_events.specs.Run.{by}

abbrev pub opens : What → Bool
opens (what.Enter r) = true
opens (what.Guard r) = true
opens (what.Set r) = true
opens (what.Save r v) = true
opens (what.Hooked r) = true
opens (what.Take number point with) = true
opens _ = false

abbrev pub ends_a_frame : What → Bool
ends_a_frame (what.Leave v) = true
ends_a_frame what.Done = true
ends_a_frame _ = false

abbrev pub is_take : What → Bool
is_take (what.Take number point with) = true
is_take _ = false

-- whether an entry closes a frame that such an entry opened: done that of a take, leave any other
abbrev pub closes : What → What → Bool
closes what.Done w = opens w && is_take w
closes (what.Leave v) w = opens w && not (is_take w)
closes _ w = false

-- the entries of an actor whose frames are open after one more, the innermost first
abbrev pub open_after : List Entry → Entry → List Entry
open_after opened e = cond (opens e.what) (e ∷ opened) (cond (ends_a_frame e.what) (drop 1 opened) opened)

abbrev pub open_from : List Entry → List Entry → List Entry
open_from opened [] = opened
open_from opened (e ∷ es) = open_from (open_after opened e) es

-- the same, of an actor after the entries of a run
abbrev pub open_frames : ℕ → List Entry → List Entry
open_frames a es = open_from [] (by a es)

-- an entry that closes a frame closes the innermost one that is open, at the instance where it was opened
abbrev pub Pairs : List Entry → Entry → Type 0
Pairs [] e = ends_a_frame e.what ≡ false
Pairs (f ∷ fs) e = ends_a_frame e.what ≡ true → (closes e.what f.what ≡ true) × (f.instance ≡ e.instance)
