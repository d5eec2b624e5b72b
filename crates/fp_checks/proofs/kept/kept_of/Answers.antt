use Rattle.std.proofs.Common.{subst}
use Rattle.fp_tables.specs.Lookup.{Described}
use Rattle.fp_tables.specs.declared.program.Program.{Program}
use Rattle.fp_events.specs.Run.{IsRun}
use Rattle.fp_running.proofs.Anew.{are_records}
use Rattle.fp_checks.proofs.kept.kept_of.Goals as goal

pub returns : goal.returns
returns c =
    let run : IsRun c.args.tables.now c.args.program.now c.args.run.entries =
    subst (λ (t : Described). IsRun t c.args.program.now c.args.run.entries) c.requires.tables
    (subst (λ (p : Program). IsRun c.args.run.tables p c.args.run.entries) c.requires.program c.keeps.ensures.run) in
    are_records c.args.tables.now c.args.program.now c.args.run c.requires.tables c.requires.program _ _
    c.in_ok-records.ensures.histories c.in_ok-records.ensures.traces
    (c.projections.ensures.records c.args.tables.now c.args.program.now c.args.run.entries run)
