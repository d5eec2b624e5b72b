use Rattle.std.proofs.Common.{List, refl, sym, subst}
use Rattle.fp_events.specs.declared.event.Entry.{Entry}
use Rattle.fp_events.specs.Run.{opening, IsRun}
use Rattle.fp_running.proofs.concluding.run_alone.Goals as goal

pub go_to_the_end-requires-clause-run : goal.go_to_the_end-requires-clause-run
go_to_the_end-requires-clause-run c =
    subst (λ (es : List Entry). IsRun c.args.tables.now c.args.program.now es) (sym c.new.ensures) (opening c.args.tables.now c.args.program.now, refl)
