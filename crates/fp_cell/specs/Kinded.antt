-- What holds of the state of an instance of sound tables.
use Rattle.std.specs.Prelude.{◌≡◌, ℕ, true, map, Some}
use Rattle.std.specs.List.{list_all}
use Rattle.fp_events.specs.Tells.{configuration_of}
use Rattle.fp_tables.specs.Lookup.{Described}
use Rattle.fp_tables.specs.Types.{have_kinds}
use Rattle.fp_tables.specs.declared.component.Param.{Param}
use Rattle.fp_tables.specs.declared.machine.Machine.{Machine}
use Rattle.fp_tables.specs.declared.program.Program.{Program}
use Rattle.fp_events.specs.Fits.{point_fits}
use Rattle.fp_events.specs.Instance.{Inside, Pending}
use Rattle.fp_events.specs.Lookup.{machine}
use Rattle.fp_events.specs.Machine.{Configuration}
use Rattle.fp_tables.specs.Specials.{component}
use Rattle.fp_machine_flat.specs.Moving.{is_leaf}

-- pending calls are of places that are there, with values of their kinds; parameters have their kinds; started machines stand in leaves
pub record IsKinded (t : Described) (program : Program) (i : ℕ) (s : Inside) : Type 0 where
  pub pending : list_all (λ (p : Pending). point_fits t program i p.point p.with) s.pending ≡ true
  pub params : have_kinds t.model.types (map (λ (p : Param). p.kind) (component t i).params) s.params ≡ true
  pub leaves : (running : ℕ) (m : Machine) (c : Configuration) → machine t i running ≡ Some m → configuration_of s running ≡ Some c → is_leaf m c.leaf ≡ true
