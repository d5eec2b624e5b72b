-- What the entries at an instance say of its queue.
use Rattle.std.specs.Prelude.{◌≡◌, ℕ, ◌<◌, List, [], ◌∷◌, ◌++◌, length, Option, Some, None, ⊤, int_lt, true, false}
use Rattle.std.specs.List.{AllByRecursion}
use Rattle.fp_tables.specs.Lookup.{Described}
use Rattle.fp_tables.specs.declared.component.Full.{Full}
use Rattle.fp_tables.specs.declared.component.Full.TheVariants as full
use Rattle.fp_tables.specs.declared.component.Way.TheVariants.{Later}
use Rattle.fp_events.specs.Lookup.{queue_size}
use Rattle.fp_events.specs.declared.event.Arrival.{Arrival}
use Rattle.fp_events.specs.declared.event.What.{What}
use Rattle.fp_events.specs.declared.event.What.TheVariants as what
use Rattle.fp_events.specs.declared.event.Entry.{Entry}
use Rattle.fp_events.specs.Instance.{Pending}
use Rattle.fp_events.specs.Manners.{Manner, by, manner, priority_at}
use Rattle.fp_events.specs.Queue.{without}

abbrev pub policy_of : Option Manner → Option Full
policy_of (Some (by (Later priority policy))) = Some policy
policy_of _ = None

-- the call is among these, those before it have a smaller priority and those after it no greater one
abbrev pub IsNext : List Pending → Pending → Type 0
IsNext ps p = (before : List Pending) × (rest : List Pending) × (ps ≡ before ++ p ∷ rest)
    × AllByRecursion (λ x. int_lt x.priority p.priority ≡ true) before × AllByRecursion (λ x. int_lt p.priority x.priority ≡ false) rest

module _ (t : Described) (i : ℕ) where
  -- the puts that are untaken after an entry, in order: a call that is dropped, hooked or asserted is never one of them
  abbrev pub untaken_after : List Pending → What → List Pending
  untaken_after ps (what.Put number r) = ps ++ (record { number = number; priority = priority_at (manner t i r.point); point = r.point; with = r.with }) ∷ []
  untaken_after ps (what.Take number point with) = without number ps
  untaken_after ps _ = ps

  abbrev pub untaken_from : List Pending → List Entry → List Pending
  untaken_from ps [] = ps
  untaken_from ps (e ∷ es) = untaken_from (untaken_after ps e.what) es

  -- at a drop, hook or assert exactly the queue size are untaken, and the policy of the point is that one
  abbrev pub IsFull : List Pending → Arrival → Full → Type 0
  IsFull ps r policy = (length ps ≡ queue_size t i) × (policy_of (manner t i r.point) ≡ Some policy)

  -- what an entry says of the puts that are untaken before it
  abbrev pub IsInOrder : List Pending → What → Type 0
  IsInOrder ps (what.Put number r) = length ps < queue_size t i
  IsInOrder ps (what.Dropped r) = IsFull ps r full.Dropped
  IsInOrder ps (what.Hooked r) = IsFull ps r full.Hook
  IsInOrder ps (what.Asserted r) = IsFull ps r full.Assert
  IsInOrder ps (what.Take number point with) = (p : Pending) × IsNext ps p × (p.number ≡ number) × (p.point ≡ point) × (p.with ≡ with)
  IsInOrder ps what.Empty = ps ≡ []
  IsInOrder ps _ = ⊤

  -- a drop, a hook and an assert come only by the policy of their place
  abbrev pub IsByPolicy : What → Type 0
  IsByPolicy (what.Dropped r) = policy_of (manner t i r.point) ≡ Some full.Dropped
  IsByPolicy (what.Hooked r) = policy_of (manner t i r.point) ≡ Some full.Hook
  IsByPolicy (what.Asserted r) = policy_of (manner t i r.point) ≡ Some full.Assert
  IsByPolicy _ = ⊤
