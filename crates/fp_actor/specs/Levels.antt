-- Levels and bindings: what is left from a place on, and which bindings are whose.
use Rattle.std.specs.Prelude.{◌≡◌, ◌≤◌, ℕ, suc, ◌+◌, ◌==◌, cond, List, [], ◌∷◌, ◌++◌, drop, Option, Some, None, option_map, unwrap_or, slice_get}
use Rattle.fp_tables.specs.declared.program.Caller.{Caller}
use Rattle.fp_events.specs.Actor.{Bindings, Action, send, Doing}
use Rattle.fp_actor.specs.declared.lists.Sending.{Sending}
use Rattle.fp_actor.specs.declared.level.Source.{Source}
use Rattle.fp_actor.specs.declared.level.Source.TheVariants as source
use Rattle.fp_actor.specs.declared.level.Position.{Position}
use Rattle.fp_actor.specs.declared.level.Base.{Base}
use Rattle.fp_actor.specs.declared.level.Base.TheVariants as base
use Rattle.fp_actor.specs.declared.level.Level.{Level}

-- the first of these lists without so many actions, and with these bindings more
abbrev pub begun : ℕ → Bindings → List Doing → List Doing
begun done more [] = []
begun done more (d ∷ ds) = record { actions = drop done d.actions; bound = more ++ d.bound } ∷ ds

-- the first action that is left from a place in the first of these lists on, and its place, the first list having a number
abbrev pub reached : List Doing → ℕ → ℕ → Option (ℕ × ℕ × Action)
reached [] k a = None
reached (d ∷ ds) k a = unwrap_or (option_map (λ (x : Action). Some (k, a, x)) (slice_get d.actions a)) (reached ds (suc k) 0)

abbrev pub sent : Sending → Action
sent s = send s.from s.note.now

-- a level from a place on: another list than the first has no bindings yet
abbrev pub settled : Level → Position → Level
settled l p = record l { next = p; first = cond (p.list == l.next.list) l.first l.past }

-- without its first action
abbrev pub advanced : Level → Level
advanced l = record l { next = record l.next { action = l.next.action + 1 } }

-- with one binding more
abbrev pub raised : Level → Level
raised l = record l { past = l.past + 1 }

-- a level's bindings are some of so many
abbrev pub IsWithin : ℕ → Level → Type 0
IsWithin n l = (l.first ≤ l.past) × (l.past ≤ n)

abbrev pub AreWithin : ℕ → List Level → Type 0
AreWithin n ls = (k : ℕ) (l : Level) → slice_get ls k ≡ Some l → IsWithin n l

-- the bindings of these levels are some of the first so many
abbrev pub AreUpTo : ℕ → List Level → Type 0
AreUpTo n ls = (k : ℕ) (l : Level) → slice_get ls k ≡ Some l → l.past ≤ n

-- a caller begins with its own list, and a dispatcher with nothing
abbrev pub opening_of : Option Caller → List Level
opening_of None = []
opening_of (Some c) = record { base = base.Own; next = record { source = source.Own; list = 0; action = 0 }; first = 0; past = 0 } ∷ []

-- the level of the entry at n, a signal's value being that of the entry at v
abbrev pub level_of_entry : Base → ℕ → ℕ → ℕ → Level
level_of_entry b n v past = record { base = b; next = record { source = source.Entry n v; list = 0; action = 0 }; first = past; past = past }

-- the entry of a source, 0 where it has none
abbrev pub entry_of : Source → ℕ
entry_of source.Own = 0
entry_of (source.Entry n m) = n
