use Rattle.std.proofs.Common.{refl, sym, ◌∙◌}
use Rattle.fp_running.proofs.OneTurn.{halts}
use Rattle.fp_running.proofs.turning.turn_of.Goals as goal

pub returns-in-Halted-clause-comes : goal.returns-in-Halted-clause-comes
returns-in-Halted-clause-comes c = λ w h. (
  halts c.args.tables.now c.args.program.now c.args.number (record { actor = c.args.actor.now; cells = c.args.cells.now.items; entries = c.args.done.now }) w h
      (sym c.in-Halted.is ∙ c.in_ok-instance.ensures),
  refl,
)
