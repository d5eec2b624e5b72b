-- A cell under its lock, whose entries stand with the stamps that their actors had seen.
use Rattle.std.specs.Prelude.{◌≡◌, ℕ, List, [], ◌∷◌, ◌++◌, map, length}
use Rattle.std.specs.List.{zip}
use Rattle.fp_events.specs.declared.event.Entry.{Entry}
use Rattle.fp_gate.specs.declared.booked.Entry.{Entry as Left}
use Rattle.fp_cell.specs.Cells.{Seat, Standing, IsKeptOf}
use Rattle.fp_cell.specs.declared.cell.Reply.{Reply}
use Rattle.fp_cell.specs.declared.cell.Reply.TheVariants.{Stepped}
use Rattle.fp_run_laws.specs.Seen.{IsTimed}
use Rattle.fp_plant.specs.declared.held.CellName.{CellName}

-- a cell, and for each entry of its history the stamp that was seen
pub record NotedCell : Type 0 where
  pub cell : Standing
  pub seen : List ℕ

abbrev pub cell_name : Seat → CellName
cell_name s = record { tables = s.tables; program = s.program; instance = s.instance }

-- each entry with the stamp that was seen
abbrev pub with_seen : NotedCell → List (Entry × ℕ)
with_seen h = zip h.cell.history h.seen

-- an entry as its actor's pass left it, with the stamp that was seen
abbrev pub noted : Entry × ℕ → Left Entry
noted p = record { item = p.0; by = p.0.actor; seen = p.1 }

-- the history as the lock sees it
abbrev pub booked : NotedCell → List (Left Entry)
booked h = map noted (with_seen h)

-- the entries of a history that a pass saw
abbrev pub items : List (Left Entry) → List Entry
items es = map (λ (e : Left Entry). e.item) es

-- the history is one of the cell, and each stamp is one more than the greater of the one before it and the one seen
pub record IsNoted (h : NotedCell) : Type 0 where
  pub kept : IsKeptOf h.cell
  pub count : length h.cell.history ≡ length h.seen
  pub timed : IsTimed (with_seen h)

-- by the answer: a step's entry alone is added, with the stamp that was seen
abbrev pub Notes : ℕ → Reply → NotedCell → NotedCell → Type 0
Notes seen (Stepped e) old new = booked new ≡ booked old ++ noted (e, seen) ∷ []
Notes seen _ old new = new ≡ old
