-- An actor that asks a cell, and what comes of it.
use Rattle.std.specs.Prelude.{◌≡◌, ◌<◌, ◌≤◌, ℕ, List, [], ◌∷◌, ◌++◌, Some}
use Rattle.fp_tables.specs.Lookup.{Described}
use Rattle.fp_tables.specs.declared.program.Program.{Program}
use Rattle.fp_events.specs.declared.event.Ask.{Ask}
use Rattle.fp_events.specs.declared.event.Entry.{Entry}
use Rattle.fp_events.specs.Instance.{InstanceState}
use Rattle.fp_events.specs.Step.{instance_part, actor_part}
use Rattle.fp_events.specs.Waits.{waits}
use Rattle.fp_actor.specs.Acting.{Acting, IsSameActor}
use Rattle.fp_cell.specs.Cells.{Standing}
use Rattle.fp_running.specs.declared.turn.Turn.{Turn}
use Rattle.fp_running.specs.declared.turn.Turn.TheVariants as turn

-- the actor, the cell and the entries done so far
pub record Meeting : Type 0 where
  pub actor : Acting
  pub cell : Standing
  pub entries : List Entry

-- the actor of this number, of these tables and this program
pub record IsActor (t : Described) (p : Program) (n : ℕ) (x : Acting) : Type 0 where
  pub tables : x.tables ≡ t
  pub program : x.program ≡ p
  pub number : x.number ≡ n

-- the cell of this instance, of these tables and this program
pub record IsCell (t : Described) (p : Program) (i : ℕ) (c : Standing) : Type 0 where
  pub tables : c.seat.tables ≡ t
  pub program : c.seat.program ≡ p
  pub instance : c.seat.instance ≡ i

-- only the actor's room may have changed
pub record IsUnmoved (old new : Meeting) : Type 0 where
  pub actor : new.actor ≡ record old.actor { has_room = new.actor.has_room }
  pub cell : new.cell ≡ old.cell
  pub entries : new.entries ≡ old.entries

-- the actor n of these tables and this program puts the ask q to the instance i
module _ (t : Described) (p : Program) (n i : ℕ) (q : Ask) where
  -- the entry of this stamp that the instance makes of it stands at both, and with the entries done
  pub record IsMade (m : ℕ) (old new : Meeting) : Type 0 where
    pub entry : Entry
    pub part : instance_part t p i old.cell.state n q old.actor.state.last ≡ Some (entry, new.cell.state)
    pub within : entry.stamp ≤ p.steps
    pub stamp : entry.stamp ≡ m
    pub seat : new.cell.seat ≡ old.cell.seat
    pub history : new.cell.history ≡ old.cell.history ++ entry ∷ []
    pub taken : actor_part t p n old.actor.state entry ≡ Some new.actor.state
    pub same : IsSameActor old.actor new.actor
    pub trace : new.actor.trace ≡ old.actor.trace ++ entry ∷ []
    pub entries : new.entries ≡ old.entries ++ entry ∷ []

  -- the instance makes of it an entry with a stamp above the limit
  pub record IsPast (old : Meeting) : Type 0 where
    pub entry : Entry
    pub left : InstanceState
    pub part : instance_part t p i old.cell.state n q old.actor.state.last ≡ Some (entry, left)
    pub above : p.steps < entry.stamp

  -- by the answer
  abbrev pub Met : Turn → Meeting → Meeting → Type 0
  Met (turn.Stepped j stamp) old new = (j ≡ i) × IsMade stamp old new
  Met (turn.NotYet j why) old new = (j ≡ i) × (waits t i old.cell.state.inside q ≡ Some why) × IsUnmoved old new
  Met turn.AtLimit old new = IsPast old × IsUnmoved old new
  Met _ old new = ⊥
