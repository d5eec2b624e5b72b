-- What is due of a run, from what the reading of its scenario and the run itself answer.
use Rattle.std.proofs.Common.{◌≡◌, ℕ, List, [], Option, Some, None, Ok, Err, refl, sym, subst}
use Rattle.std.specs.Prelude.{IfSome, slice_get}
use Rattle.fp_base.specs.declared.refusal.PathStop.{PathStop}
use Rattle.fp_outside.specs.Files.{bytes_of, CountsFault, CountsMiss}
use Rattle.fp_outside.specs.declared.files.HeldFile.{HeldFile}
use Rattle.fp_outside.specs.declared.files.ReadRefusal.{ReadRefusal}
use Rattle.fp_outside.specs.declared.files.ReadRefusal.TheVariants.{Failed}
use Rattle.fp_tables.specs.Lookup.{Described}
use Rattle.fp_tables.specs.Sound.{IsSound, IsSoundAt, IsSoundFor, IsSoundWith}
use Rattle.fp_tables.specs.declared.model.Model.{Model}
use Rattle.fp_tables.specs.declared.topology.Topology.{Topology}
use Rattle.fp_events.specs.declared.event.Finish.{Finish}
use Rattle.fp_events.specs.declared.event.Finish.TheVariants as finish
use Rattle.fp_scenario.specs.declared.scenario.ScenarioStop.{ScenarioStop}
use Rattle.fp_scenario.specs.declared.scenario.ScenarioStop.TheVariants as stopped
use Rattle.fp_scenario_run.specs.Told.{IsToldBy}
use Rattle.fp_scenario_run.specs.declared.scenario.RunText.{RunText}
use Rattle.fp_scenario_run.specs.Planned.{BreaksNoRule, IsRefused}
use Rattle.fp_gather.specs.FilesRun.{FilesRun, HadFault, HadMiss, Holds, IsHeld, NoFault, NoMiss}
use Rattle.fp_main.specs.Lines.{no_file_line, read_fault_line, scenario_line}
use Rattle.fp_main.specs.Output.{GivesRun, IsDueOfRun, IsScenarioRead}
use Rattle.fp_main.specs.Statuses.{status_of}
use Rattle.fp_main.specs.Topologies.{IsTopology}
use Rattle.fp_main.specs.declared.answer.Due.{Due}
use Rattle.fp_main.specs.declared.status.Status.TheVariants.{Refused, ReadFault, NoFile}

-- a model that is sound with each of its topologies
pub sound_at : (m : Model) (name : List ℕ) (at : ℕ) → IsSound m → ((t : ℕ) (o : Topology) → slice_get m.topologies t ≡ Some o → IsSoundWith m o) → IsTopology m name at
    → IsSoundFor m (Some at)
sound_at m name at sound each there = (sound, subst (IsSoundAt m) (sym there.1) (each at there.0 there.1))

-- ---- the read of a scenario

held_so : (told : Option (List HeldFile)) (name : List ℕ) (o : Option (List ℕ)) → IfSome told (λ held. o ≡ bytes_of held name) → IsHeld told name o
held_so None name o h = tt
held_so (Some held) name o h = sym h

module _ (files : FilesRun) (scenario : List ℕ) where
  pub scenario_read : (slice text : List ℕ) (o : Option (List ℕ)) → o ≡ Some text → slice ≡ text → NoFault files → CountsMiss (Ok o) files.misses_before files.misses_after
      → IfSome files.told (λ held. o ≡ bytes_of held scenario) → IsScenarioRead files scenario slice
  scenario_read slice text o is same sound found held = record {
    sound = sound;
    found = subst (λ (x : Option (List ℕ)). CountsMiss (Ok x) files.misses_before files.misses_after) is found;
    held = subst (λ (x : List ℕ). Holds files scenario (Some x)) (sym same) (subst (λ (x : Option (List ℕ)). Holds files scenario x) is (held_so files.told scenario o held));
  }

  pub scenario_absent : (o : Option (List ℕ)) → o ≡ None → CountsMiss (Ok o) files.misses_before files.misses_after → IfSome files.told (λ held. o ≡ bytes_of held scenario)
      → HadMiss files × Holds files scenario None
  scenario_absent o is missed held = (
    subst (λ (x : Option (List ℕ)). CountsMiss (Ok x) files.misses_before files.misses_after) is missed,
    subst (λ (x : Option (List ℕ)). Holds files scenario x) is (held_so files.told scenario o held),
  )

  pub scenario_unread : (e : ReadRefusal) → e ≡ Failed → CountsFault (Err e) files.faults_before files.faults_after → HadFault files
  scenario_unread e is fault = subst (λ (x : ReadRefusal). CountsFault (Err x) files.faults_before files.faults_after) is fault

-- ---- what is due

module _ (told : RunText) (files : FilesRun) (scenario : List ℕ) (t : Described) where
  abbrev pub IsDueHere : Due → Type 0
  IsDueHere due = IsDueOfRun told files scenario t due.status due.output due.line

  by_end : (finish : Finish) (output line : List ℕ) → GivesRun told finish files scenario t output line → IsDueOfRun told files scenario t (status_of finish) output line
  by_end finish.Complete output line d = d
  by_end finish.Stuck output line d = d
  by_end finish.Spent output line d = d
  by_end finish.Asserted output line d = d

  pub due_told : (due : Due) (output text : List ℕ) (end : Finish) → due ≡ record { status = status_of end; output = output; line = [] } → IsScenarioRead files scenario text
      → BreaksNoRule t text → IsToldBy t told text output end → IsDueHere due
  due_told due output text end is read whole tells =
      subst IsDueHere (sym is) (by_end end output [] (record { text = text; read = read; whole = whole; tells = tells; silent = refl }))

  pub due_scenario_broken : (due : Due) (s : ScenarioStop) (stop : PathStop) (text line : List ℕ) → due ≡ record { status = Refused; output = []; line = line }
      → line ≡ scenario_line scenario stop.path stop.rule → s ≡ stopped.Broken stop → IsRefused t text s → IsScenarioRead files scenario text → IsDueHere due
  due_scenario_broken due s stop text line is said broken refused read =
      subst IsDueHere (sym is)
      (record { text = text; read = read; rule = stop.rule; path = stop.path; broken = subst (IsRefused t text) broken refused; silent = refl; said = said })

  pub due_scenario_absent : (due : Due) → due ≡ record { status = NoFile; output = []; line = no_file_line scenario } → NoFault files → HadMiss files × Holds files scenario None → IsDueHere due
  due_scenario_absent due is sound absent = subst IsDueHere (sym is) (record { sound = sound; missed = absent.0; absent = absent.1; silent = refl; said = refl })

  pub due_scenario_unread : (due : Due) → due ≡ record { status = ReadFault; output = []; line = read_fault_line scenario } → HadFault files → NoMiss files → IsDueHere due
  due_scenario_unread due is fault found = subst IsDueHere (sym is) (record { fault = fault; found = found; silent = refl; said = refl })
