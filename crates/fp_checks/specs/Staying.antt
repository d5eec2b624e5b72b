-- What no turn of a run changes.
use Rattle.std.specs.Prelude.{◌≡◌}
use Rattle.fp_running.specs.Progress.{Progress}

-- a run of the same tables and the same program
pub record IsOfSame (old new : Progress) : Type 0 where
  pub tables : new.tables ≡ old.tables
  pub program : new.program ≡ old.program
