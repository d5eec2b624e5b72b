-- A take of the next call is a step.
use Rattle.std.proofs.Common.{◌≡◌, ℕ, List, Option, ◌∙◌, Some, None, refl, sym, ap}
use Rattle.fp_tables.specs.Lookup.{Described}
use Rattle.fp_tables.specs.declared.program.Program.{Program}
use Rattle.fp_events.specs.declared.event.Ask.TheVariants as ask
use Rattle.fp_events.specs.declared.event.What.{What}
use Rattle.fp_events.specs.declared.event.What.TheVariants as what
use Rattle.fp_events.specs.Instance.{Inside, Pending}
use Rattle.fp_events.specs.Tells.{tells}
use Rattle.fp_events.specs.Leaves.{leaves}
use Rattle.fp_events.specs.Queue.{next_call, without, takes}
use Rattle.fp_cell.specs.declared.calls.Call.{Call}
use Rattle.fp_cell.specs.Waiting.{IsTaken}
use Rattle.fp_cell.specs.Stepping.{Steps}

module _ (t : Described) (program : Program) (i actor : ℕ) (s : Inside) (rest : List Pending) (puts : ℕ) (c : Call) (free : s.turn ≡ None) (h : IsTaken s.pending c rest)
    (same : puts ≡ s.puts) where
  abbrev after : Inside
  after = record s { pending = rest; puts = puts; turn = Some actor }

  made : what.Take h.next.number h.next.point h.next.with ≡ what.Take c.number c.point c.with
  made = rw (h.number, h.point, h.with) refl

  tells_it : (otherwise : Option What) → takes s.turn otherwise (next_call s.pending) ≡ Some (what.Take c.number c.point c.with)
  tells_it otherwise = rw (free, h.is_next) (ap (λ (w : What). Some w) made)

  left : after ≡ record s { pending = without c.number s.pending; turn = Some actor }
  left =
      ap (λ (p : ℕ). let r : Inside = record s { pending = rest; puts = p; turn = Some actor } in r) same
      ∙ ap (λ (ps : List Pending). let r : Inside = record s { pending = ps; turn = Some actor } in r) (h.others ∙ ap (λ (n : ℕ). without n s.pending) (sym h.number))

  pub taken_step : Steps t program i actor ask.Take s (what.Take c.number c.point c.with) after
  unfolding tells leaves
  taken_step = record { told = tells_it None; left = left }

  pub dispatched_step : Steps t program i actor ask.Dispatch s (what.Take c.number c.point c.with) after
  unfolding tells leaves
  dispatched_step = record { told = tells_it (Some what.Empty); left = left }
