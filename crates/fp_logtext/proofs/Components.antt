-- The machine of a machine instance.
use Rattle.std.proofs.Common.{◌≡◌, ℕ, option_and_then, ap, slice_get}
use Rattle.fp_tables.specs.Lookup.{Described}
use Rattle.fp_tables.specs.declared.component.Running.{Running}
use Rattle.fp_events.specs.Lookup.{machine}
use Rattle.fp_logtext.specs.Names.{machine_at}
use Rattle.fp_run_laws.proofs.Parts.{running_in}

pub machine_in : (t : Described) (i k : ℕ) → machine t i k ≡ machine_at t.model i k
machine_in t i k = ap (option_and_then (λ (r : Running). slice_get t.model.machines r.machine)) (running_in t i k)
