-- Whether something is pending, and why a take waits, by that and by the turn.
use Rattle.std.proofs.Common.{◌≡◌, ◌≢◌, ◌↔◌, ℕ, Bool, true, false, List, [], ◌∷◌, Option, Some, None, refl}
use Rattle.fp_events.specs.declared.event.Why.{Why}
use Rattle.fp_events.specs.declared.event.Why.TheVariants as why
use Rattle.fp_events.specs.Ends.{none_pending}
use Rattle.fp_events.specs.Instance.{Pending}
use Rattle.fp_events.specs.Queue.{next_call}
use Rattle.fp_events.specs.Waits.{take_waits}

pub nothing_pending : (turn : Option ℕ) (empty : Option Why) (ps : List Pending) → ps ≡ [] → take_waits turn empty (next_call ps) ≡ empty
nothing_pending turn empty ps e = rw e refl

pub turn_free : (turn : Option ℕ) (empty : Option Why) (ps : List Pending) → ps ≢ [] → turn ≡ None → take_waits turn empty (next_call ps) ≡ None
turn_free turn empty [] some e = absurd (some refl)
turn_free turn empty (p ∷ ps) some e = rw e refl

pub turn_held : (turn : Option ℕ) (empty : Option Why) (ps : List Pending) (holder : ℕ) → ps ≢ [] → turn ≡ Some holder → take_waits turn empty (next_call ps) ≡ Some (why.TurnHeld holder)
turn_held turn empty [] holder some e = absurd (some refl)
turn_held turn empty (p ∷ ps) holder some e = rw e refl

pub idle_is : (b : Bool) (ps : List Pending) → (b ≡ true) ↔ (ps ≡ []) → b ≡ none_pending ps
idle_is true [] h = refl
idle_is true (p ∷ ps) h = let none : p ∷ ps ≡ [] = h.0 refl in absurd (cc)
idle_is false [] h = let empty : false ≡ true = h.1 refl in absurd (cc)
idle_is false (p ∷ ps) h = refl
