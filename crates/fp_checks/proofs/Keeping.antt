-- Turns keep the tables and the program of a run.
use Rattle.std.proofs.Common.{◌≡◌, ℕ, List, refl, ap, ◌∙◌}
use Rattle.fp_events.specs.declared.event.Entry.{Entry}
use Rattle.fp_events.specs.Run.{World}
use Rattle.fp_running.specs.Progress.{Progress, Comes, Turned, and_then}
use Rattle.fp_running.specs.declared.turn.Turn.{Turn}
use Rattle.fp_running.specs.declared.turn.Turn.TheVariants as turn
use Rattle.fp_checks.specs.Staying.{IsOfSame}

pub same_itself : (r : Progress) → IsOfSame r r
same_itself r = record { tables = refl; program = refl }

pub equal_same : (old new : Progress) → new ≡ old → IsOfSame old new
equal_same old new e = record { tables = ap (λ (r : Progress). r.tables) e; program = ap (λ (r : Progress). r.program) e }

more_same : (old new : Progress) (more : List Entry) → new ≡ and_then old more → IsOfSame old new
more_same old new more e = record { tables = ap (λ (r : Progress). r.tables) e; program = ap (λ (r : Progress). r.program) e }

pub then_same : (a b d : Progress) → IsOfSame a b → IsOfSame b d → IsOfSame a d
then_same a b d first second = record { tables = second.tables ∙ first.tables; program = second.program ∙ first.program }

comes_same : (old new : Progress) (w : World) (a : ℕ) (t : Turn) → Comes old new w a t → IsOfSame old new
comes_same old new w a (turn.Stepped i n) h = more_same old new _ h.added
comes_same old new w a (turn.NotYet i why) h = equal_same old new h.1
comes_same old new w a turn.AtLimit h = equal_same old new h.1
comes_same old new w a turn.AtEnd h = equal_same old new h.1
comes_same old new w a turn.Halted h = equal_same old new h.1

pub turned_same : (a : ℕ) (t : Turn) (old new : Progress) → Turned a t old new → IsOfSame old new
turned_same a t old new h = comes_same old new h.0 a t h.2
