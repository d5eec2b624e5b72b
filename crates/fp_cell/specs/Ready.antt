-- What the fields of a cell keep while asks are answered.
use Rattle.std.specs.Prelude.{◌≡◌, ◌<◌, Some}
use Rattle.fp_tables.specs.Sound.{IsSoundFor}
use Rattle.fp_events.specs.Lookup.{queue_size}
use Rattle.fp_cell.specs.Kinded.{IsKinded}
use Rattle.fp_cell.specs.Settled.{IsSet, AreKnown}
use Rattle.fp_cell.specs.Stepping.{inside}
use Rattle.fp_cell.specs.declared.setting.Setting.{Setting}
use Rattle.fp_cell.specs.declared.state.State.{State}

pub record IsReady (s : Setting) (x : State) : Type 0 where
  pub sound : IsSoundFor s.tables.now.model (Some s.tables.now.topology)
  pub set : IsSet s
  pub size : queue_size s.tables.now s.instance ≡ x.calls.size
  pub known : 0 < x.calls.size → AreKnown s.tables.now s.instance x.calls.priorities
  pub kinded : IsKinded s.tables.now s.program.now s.instance (inside x)
