-- What a cell answers to an ask, and how it stands after.
use Rattle.std.specs.Prelude.{◌≡◌, ◌≤◌, ◌<◌, ℕ, [], ◌∷◌, ◌++◌, Option, Some}
use Rattle.fp_events.specs.Instance.{InstanceState}
use Rattle.fp_events.specs.Step.{instance_part}
use Rattle.fp_events.specs.Waits.{waits}
use Rattle.fp_events.specs.declared.event.Ask.{Ask}
use Rattle.fp_events.specs.declared.event.Entry.{Entry}
use Rattle.fp_events.specs.declared.event.Why.{Why}
use Rattle.fp_cell.specs.Cells.{Standing}
use Rattle.fp_cell.specs.declared.cell.Reply.{Reply}
use Rattle.fp_cell.specs.declared.cell.Reply.TheVariants.{Stepped, NotYet, AtLimit}

-- what the instance makes of an ask of this actor, whose last stamp was seen
abbrev pub part : Standing → ℕ → Ask → ℕ → Option (Entry × InstanceState)
part c actor ask seen = instance_part c.seat.tables c.seat.program c.seat.instance c.state actor ask seen

-- why it makes nothing of it now
abbrev pub cause : Standing → Ask → Option Why
cause c ask = waits c.seat.tables c.seat.instance c.state.inside ask

-- the step is taken: its entry alone is appended
pub record IsStep (before : Standing) (actor : ℕ) (ask : Ask) (seen : ℕ) (e : Entry) (after : Standing) : Type 0 where
  pub part : part before actor ask seen ≡ Some (e, after.state)
  pub within : e.stamp ≤ before.seat.program.steps
  pub seat : after.seat ≡ before.seat
  pub history : after.history ≡ before.history ++ e ∷ []

-- there is a step, with a stamp above the limit
pub record IsAbove (before : Standing) (actor : ℕ) (ask : Ask) (seen : ℕ) : Type 0 where
  pub entry : Entry
  pub left : InstanceState
  pub part : part before actor ask seen ≡ Some (entry, left)
  pub above : before.seat.program.steps < entry.stamp

-- by the answer
abbrev pub Answered : Standing → ℕ → Ask → ℕ → Reply → Standing → Type 0
Answered before actor ask seen (Stepped e) after = IsStep before actor ask seen e after
Answered before actor ask seen (NotYet why) after = (cause before ask ≡ Some why) × (after ≡ before)
Answered before actor ask seen AtLimit after = IsAbove before actor ask seen × (after ≡ before)
