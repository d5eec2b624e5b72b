-- What soundness asks of the state machines of a model. FPP Language Specification, "State Machine Definitions".
use Rattle.std.specs.Prelude.{◌≡◌, ℕ, true, false, List, Some, slice_get}
use Rattle.fp_tables.specs.Names.{is_qualified}
use Rattle.fp_tables.specs.declared.kind.TypeDef.{TypeDef}
use Rattle.fp_tables.specs.declared.machine.Machine.{Machine}
use Rattle.fp_sound_parts.specs.Sound.{HasSoundBody, HasSoundOutline}

-- one whose body is written elsewhere has an outline alone
pub record IsSoundMachine (types : List TypeDef) (m : Machine) : Type 0 where
  pub qualified : is_qualified m.name ≡ true
  pub outline : HasSoundOutline types m
  pub body : m.external ≡ false → HasSoundBody types m

abbrev pub AreSoundMachines : List TypeDef → List Machine → Type 0
AreSoundMachines types machines = (k : ℕ) (m : Machine) → slice_get machines k ≡ Some m → IsSoundMachine types m
