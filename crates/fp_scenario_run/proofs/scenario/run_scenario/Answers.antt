use Rattle.std.proofs.Common.{Some, sym, subst}
use Rattle.fp_tables.specs.Lookup.{Described}
use Rattle.fp_tables.specs.Sound.{IsSoundFor}
use Rattle.fp_scenario_run.specs.Told.{IsToldBy}
use Rattle.fp_scenario_run.specs.Planned.{BreaksNoRule}
use Rattle.fp_scenario_run.proofs.Spelling.{refused_by}
use Rattle.fp_scenario_run.proofs.scenario.run_scenario.Goals as goal

pub program_of-requires : goal.program_of-requires
program_of-requires g c = record { sound = subst (λ (t : Described). IsSoundFor t.model (Some t.topology)) (sym c.in_ok-tables.ensures) c.requires.sound }

pub run_told-requires-clause-sound : goal.run_told-requires-clause-sound
run_told-requires-clause-sound g c κs within = subst (λ (t : Described). IsSoundFor t.model (Some t.topology)) (sym c.in_ok-tables.ensures) c.requires.sound

pub returns-clause-told : goal.returns-clause-told
returns-clause-told g c =
    subst (λ (t : Described). IsToldBy t c.args.wanted c.args.text.now c.in_ok-told.told.text c.in_ok-told.told.finish) c.in_ok-tables.ensures
    (c.in_ok-program.program, c.in_ok-program.ensures.planned, c.in_ok-told.ensures)

pub returns-clause-unbroken : goal.returns-clause-unbroken
returns-clause-unbroken g c = subst (λ (t : Described). BreaksNoRule t c.args.text.now) c.in_ok-tables.ensures c.in_ok-program.ensures.unbroken

pub returns-in_err-program-clause-broken : goal.returns-in_err-program-clause-broken
returns-in_err-program-clause-broken g c =
    refused_by c.in_ok-tables.tables (record { model = c.args.model; topology = c.args.topology }) c.args.text.now _ _ c.in_ok-tables.ensures c.from_residual-in_err-program.ensures.1 c.in_err-program.ensures.broken
