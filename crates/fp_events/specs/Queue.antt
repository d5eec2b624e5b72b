-- The queue of an instance: its pending calls in order of arrival.
use Rattle.std.specs.Prelude.{ℕ, cond, ◌==◌, int_lt, List, [], ◌∷◌, Option, Some, None}
use Rattle.fp_tables.specs.declared.component.Full.{Full}
use Rattle.fp_tables.specs.declared.component.Full.TheVariants as full
use Rattle.fp_events.specs.declared.event.Arrival.{Arrival}
use Rattle.fp_events.specs.declared.event.What.{What}
use Rattle.fp_events.specs.declared.event.What.TheVariants as what
use Rattle.fp_events.specs.Instance.{Pending}

-- the call that is taken next: of the greatest priority, the earliest of these
abbrev pub greater : Pending → Option Pending → Pending
greater p None = p
greater p (Some q) = cond (int_lt p.priority q.priority) q p

abbrev pub next_call : List Pending → Option Pending
next_call [] = None
next_call (p ∷ ps) = Some (greater p (next_call ps))

-- the pending calls without the one of this number
abbrev pub without : ℕ → List Pending → List Pending
without n [] = []
without n (p ∷ ps) = cond (p.number == n) ps (p ∷ without n ps)

-- the entry of an arrival at a full queue, by its policy: under block there is none
abbrev pub overflows : Arrival → Full → Option What
overflows r full.Dropped = Some (what.Dropped r)
overflows r full.Hook = Some (what.Hooked r)
overflows r full.Assert = Some (what.Asserted r)
overflows r full.Block = None

-- the entry of a take or a dispatch, by the call that comes next: where there is none, the one given besides; where the turn is held, none
abbrev pub takes : Option ℕ → Option What → Option Pending → Option What
takes turn otherwise None = otherwise
takes (Some holder) otherwise (Some p) = None
takes None otherwise (Some p) = Some (what.Take p.number p.point p.with)
