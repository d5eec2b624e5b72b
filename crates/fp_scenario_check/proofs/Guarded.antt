-- The guards that a scenario answers for.
use Rattle.std.proofs.Common.{◌≡◌, ℕ, true, ◌&&◌, Some}
use Rattle.std.specs.Prelude.{slice_get}
use Rattle.fp_scenario_actions.proofs.Halting.{machine_at_short}
use Rattle.fp_base.proofs.Bools.{both}
use Rattle.fp_base.proofs.Options.{then_some}
use Rattle.fp_tables.specs.Acts.{machine_at}
use Rattle.fp_tables.specs.Lookup.{Described, machine_running}
use Rattle.fp_tables.specs.Positions.{is_short, lists_are_short, machine_is_short}
use Rattle.fp_tables.specs.declared.machine.Machine.{Machine}

guards_of_short : (x : Machine) → machine_is_short x ≡ true → is_short x.guards ≡ true
guards_of_short x h =
    let a = both (is_short x.signals && is_short x.actions && is_short x.guards) (is_short x.vertices) h in
    (both (is_short x.signals && is_short x.actions) (is_short x.guards) a.0).1

pub guards_short : (t : Described) (i r : ℕ) (x : Machine) → lists_are_short t.model ≡ true → machine_at t i r ≡ Some x → is_short x.guards ≡ true
guards_short t i r x h e =
    let n = then_some (slice_get t.model.machines) (machine_running t.model i r) x e in
    guards_of_short x (machine_at_short t.model n.0 x h n.2)
