use Rattle.std.proofs.Common.{ap, ◌∙◌}
use Rattle.fp_running.specs.Progress.{Progress}
use Rattle.fp_checks.proofs.kept.kept_after.Goals as goal

pub kept_of-requires-clause-tables : goal.kept_of-requires-clause-tables
kept_of-requires-clause-tables c = c.in_ok-take_turns.ensures.tables ∙ ap (λ (r : Progress). r.tables) c.in_ok-run.ensures

pub kept_of-requires-clause-program : goal.kept_of-requires-clause-program
kept_of-requires-clause-program c = c.in_ok-take_turns.ensures.program ∙ ap (λ (r : Progress). r.program) c.in_ok-run.ensures
