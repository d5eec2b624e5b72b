use Rattle.std.proofs.Common.{◌≡◌, Some, subst}
use Rattle.fp_tables.specs.Sound.{IsSoundFor}
use Rattle.fp_tables.specs.SoundPrograms.{IsSoundProgram}
use Rattle.fp_events.specs.Run.{IsRun}
use Rattle.fp_running.specs.Progress.{Progress}
use Rattle.fp_running.proofs.running.Running.keeps.Goals as goal

pub returns-clause-sound : goal.returns-clause-sound
returns-clause-sound c = subst (λ (r : Progress). IsSoundFor r.tables.model (Some r.tables.topology)) c.self.view_is c.self.invariant.sound

pub returns-clause-good : goal.returns-clause-good
returns-clause-good c = subst (λ (r : Progress). IsSoundProgram r.tables r.program) c.self.view_is c.self.invariant.good

pub returns-clause-run : goal.returns-clause-run
returns-clause-run c = subst (λ (r : Progress). IsRun r.tables r.program r.entries) c.self.view_is (c.self.invariant.world, c.self.invariant.run)
