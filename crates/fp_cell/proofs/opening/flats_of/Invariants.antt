use Rattle.std.proofs.Common.{◌≡◌, map, take, Some, slice_get}
use Rattle.fp_tables.specs.declared.component.Running.{Running}
use Rattle.fp_machine_flat.specs.Flat.{Flat}
use Rattle.fp_cell.proofs.opening.flats_of.Given as goal

abbrev pub invariant-loop-one : goal.invariant-loop-one
invariant-loop-one l = map (λ (f : Flat). Some f.machine) l.flats.items ≡ map (λ (r : Running). slice_get l.machines r.machine) (take l.one-index l.running)
