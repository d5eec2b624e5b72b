-- A load that can be run.
use Rattle.std.specs.Prelude.{◌<◌, Some}
use Rattle.fp_tables.specs.Sound.{IsSoundFor}
use Rattle.fp_tables.specs.SoundPrograms.{IsSoundProgram}
use Rattle.fp_events.specs.Fits.{actor_count}
use Rattle.fp_bench.specs.declared.load.Load.{Load}

pub record IsReady (load : Load) : Type 0 where
  pub sound : IsSoundFor load.tables.model (Some load.tables.topology)
  pub good : IsSoundProgram load.tables load.program
  pub actors : 0 < actor_count load.tables load.program
