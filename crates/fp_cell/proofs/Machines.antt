-- The machines of an instance of a sound model.
use Rattle.std.proofs.Common.{◌≡◌, ℕ, Bool, true, not, List, length, None, Some, slice_get}
use Rattle.fp_base.proofs.Lists.{all_get}
use Rattle.fp_tables.specs.Components.{runs_no_external}
use Rattle.fp_tables.specs.Lists.{some_and}
use Rattle.fp_tables.specs.Lookup.{Described}
use Rattle.fp_tables.specs.Sound.{IsSound}
use Rattle.fp_tables.specs.declared.component.Component.{Component}
use Rattle.fp_tables.specs.declared.component.Running.{Running}
use Rattle.fp_tables.specs.declared.machine.Machine.{Machine}
use Rattle.fp_tables.specs.declared.model.Model.{Model}
use Rattle.fp_tables.specs.declared.program.Program.{Program}
use Rattle.fp_tables.specs.declared.machine.Named.{Named}
use Rattle.fp_events.specs.Lookup.{machine, answers_of}
use Rattle.fp_events.specs.Machine.{Configuration, starts, moves}
use Rattle.fp_machine_flat.specs.Moving.{is_leaf}
use Rattle.fp_machine_flat.proofs.FittingMoves.{starts_are, moves_on, fitting}
use Rattle.fp_machine_flat.proofs.SoundMachines.{machine_is_sound, running_given}
use Rattle.fp_cell.specs.Settled.{IsRunnable}
use Rattle.fp_cell.proofs.Goes.{EndsWell, MachinesGoWell}
use Rattle.fp_tables.proofs.Optional.{some_and_of}
use Rattle.fp_base.proofs.Bools.{not_true}

pub machines_go_well : (t : Described) (program : Program) (i : ℕ) → IsSound t.model → MachinesGoWell t program i
machines_go_well t program i sound =
    record {
      starting = λ running m runs. started running m runs (answers_of program i running);
      moving = λ running signal m named c runs is leaf. moved running signal m named c runs is leaf (answers_of program i running);
    }
  where
    started : (running : ℕ) (m : Machine) → machine t i running ≡ Some m → (answers : ℕ → List Bool) → EndsWell t program m None (starts m answers)
    started running m runs answers =
        let f = fitting t program m None (length m.guards) (starts m answers) (starts_are t.model.types m (running_given t i running m sound runs) answers) in
        record { fits = f.fits; leaf = f.ends_at_a_leaf }

    moved : (running signal : ℕ) (m : Machine) (named : Named) (c : Configuration) → machine t i running ≡ Some m → slice_get m.signals signal ≡ Some named → is_leaf m c.leaf ≡ true
        → (answers : ℕ → List Bool) → EndsWell t program m named.kind (moves m answers c signal)
    moved running signal m named c runs is leaf answers =
        let f =
        fitting t program m named.kind (length c.asked) (moves m answers c signal)
        (moves_on t.model.types m (running_given t i running m sound runs) answers c signal named leaf is) in
        record { fits = f.fits; leaf = f.ends_at_a_leaf }

-- each machine instance of a component of the model
pub runnable : (model : Model) (n : ℕ) (c : Component) → IsSound model → slice_get model.components n ≡ Some c → (k : ℕ) (r : Running) → slice_get c.machines k ≡ Some r → IsRunnable model.machines r
runnable model n c sound found k r at =
    let each = all_get (runs_no_external model.machines) model.components n c sound.components.no_external_machine_runs found in
    let m = some_and_of (λ (m : Machine). not m.external) (slice_get model.machines r.machine)
    (all_get (λ (r : Running). some_and (λ (m : Machine). not m.external) (slice_get model.machines r.machine)) c.machines k r each at) in
    record { runs = m.0; found = m.1; sound = machine_is_sound model r.machine m.0 sound m.1 (not_true m.0.external m.2) }
