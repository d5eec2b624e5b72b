-- What a cell keeps of its tables at hand.
use Rattle.std.specs.Prelude.{◌≡◌, ℕ, ℤ, List, Some, option_map, is_some, slice_get}
use Rattle.std.specs.List.{Contains}
use Rattle.fp_tables.specs.Specials.{special_wire}
use Rattle.fp_tables.specs.Lookup.{Described}
use Rattle.fp_tables.specs.declared.component.Full.{Full}
use Rattle.fp_tables.specs.declared.component.Special.TheVariants as special
use Rattle.fp_tables.specs.declared.component.Way.TheVariants.{Later}
use Rattle.fp_events.specs.Lookup.{machine}
use Rattle.fp_events.specs.Manners.{by, manner}
use Rattle.fp_events.specs.declared.event.Point.{Point}
use Rattle.fp_tables.specs.declared.component.Running.{Running}
use Rattle.fp_tables.specs.declared.machine.Machine.{Machine}
use Rattle.fp_machine_flat.specs.Flat.{Flat}
use Rattle.fp_machine_flat.specs.SoundMachine.{IsSoundMachine}
use Rattle.fp_cell.specs.declared.setting.Setting.{Setting}

-- the machines of an instance are these, laid out flat, and the wires of its event and telemetry ports are known
pub record IsSet (s : Setting) : Type 0 where
  pub machines : (running : ℕ) → machine s.tables.now s.instance running ≡ option_map (λ (f : Flat). f.machine) (slice_get s.machines.items running)
  pub sends_events : s.sends_events ≡ is_some (special_wire s.tables.now s.instance special.Event)
  pub sends_channels : s.sends_channels ≡ is_some (special_wire s.tables.now s.instance special.Tlm)

-- a machine instance is of a machine that is there and has a body
pub record IsRunnable (machines : List Machine) (r : Running) : Type 0 where
  pub runs : Machine
  pub found : slice_get machines r.machine ≡ Some runs
  pub sound : IsSoundMachine runs

-- the priorities of the places where calls wait are among these
abbrev pub AreKnown : Described → ℕ → List ℤ → Type 0
AreKnown t i priorities = (point : Point) (priority : ℤ) (policy : Full) → manner t i point ≡ Some (by (Later priority policy)) → Contains priorities priority
