-- A start and a move of a machine are steps.
use Rattle.std.proofs.Common.{◌≡◌, ℕ, List, set, Option, Some, None, refl}
use Rattle.fp_base.specs.declared.value.Value.{Value}
use Rattle.fp_tables.specs.Lookup.{Described}
use Rattle.fp_tables.specs.declared.machine.Machine.{Machine}
use Rattle.fp_tables.specs.declared.program.Program.{Program}
use Rattle.fp_events.specs.declared.event.Ask.TheVariants as ask
use Rattle.fp_events.specs.declared.event.What.{What}
use Rattle.fp_events.specs.declared.event.What.TheVariants as what
use Rattle.fp_events.specs.Instance.{Inside}
use Rattle.fp_events.specs.Lookup.{machine, answers_of}
use Rattle.fp_events.specs.Machine.{Configuration, Walk, starts, moves}
use Rattle.fp_events.specs.Tells.{tells, configuration_of}
use Rattle.fp_events.specs.Leaves.{leaves}
use Rattle.fp_cell.specs.Stepping.{Steps}

module _ (t : Described) (program : Program) (i actor running signal : ℕ) (value : Option Value) (m : Machine) (s : Inside) (w : Walk) (is : machine t i running ≡ Some m) where
  starts_it : configuration_of s running ≡ None → w ≡ starts m (answers_of program i running) →
      Steps t program i actor (ask.Advance running signal value) s (what.Start running w.actions w.reached.leaf) (record s { machines = set s.machines running (Some w.reached) })
  unfolding tells leaves
  starts_it none e = record { told = rw (is, none, e) refl; left = rw (is, none, e) refl }

  moves_it : (c : Configuration) → configuration_of s running ≡ Some c → w ≡ moves m (answers_of program i running) c signal →
      Steps t program i actor (ask.Advance running signal value) s (what.Move running signal w.actions w.reached.leaf) (record s { machines = set s.machines running (Some w.reached) })
  unfolding tells leaves
  moves_it c some e = record { told = rw (is, some, e) refl; left = rw (is, some, e) refl }

  module _ (told : What) (machines : List (Option Configuration)) (actions : List ℕ) (leaf : ℕ) (reached : Configuration) (same : actions ≡ w.actions) (at : leaf ≡ reached.leaf)
      (there : reached ≡ w.reached) (left : machines ≡ set s.machines running (Some reached)) where
    pub started : told ≡ what.Start running actions leaf → configuration_of s running ≡ None → w ≡ starts m (answers_of program i running) →
        Steps t program i actor (ask.Advance running signal value) s told (record s { machines = machines })
    started is_told none e = rw (is_told, left, at, there, same) (starts_it none e)

    pub moved : (c : Configuration) → told ≡ what.Move running signal actions leaf → configuration_of s running ≡ Some c → w ≡ moves m (answers_of program i running) c signal →
        Steps t program i actor (ask.Advance running signal value) s told (record s { machines = machines })
    moved c is_told some e = rw (is_told, left, at, there, same) (moves_it c some e)
