-- When each status comes, and what stands written then.
use Rattle.std.specs.Prelude.{ℕ, ◌≡◌, ◌<◌, ◌⊎◌, List, [], Some, None}
use Rattle.fp_base.specs.declared.refusal.Refusal.{Refusal}
use Rattle.fp_base.specs.declared.rule.Rule.{Rule}
use Rattle.fp_tree.specs.declared.member.Member.{Member}
use Rattle.fp_tree.specs.declared.source.Source.{Source}
use Rattle.fp_base.specs.Least.{IsLeast, IsUnbroken}
use Rattle.fp_outside.specs.Counts.{last_count}
use Rattle.fp_outside.specs.declared.files.HeldFile.{HeldFile}
use Rattle.fp_model.specs.Defined.{Defined}
use Rattle.fp_tables.specs.declared.model.Model.{Model}
use Rattle.fp_tables.specs.Lookup.{Described}
use Rattle.fp_events.specs.declared.event.Finish.{Finish}
use Rattle.fp_events.specs.declared.event.Finish.TheVariants as finish
use Rattle.fp_events.specs.declared.event.Finish.TheVariants.{Complete}
use Rattle.fp_scenario_run.specs.Told.{IsToldBy}
use Rattle.fp_scenario_run.specs.declared.scenario.RunText.{RunText}
use Rattle.fp_scenario_run.specs.declared.scenario.RunText.TheVariants.{Log, Counts}
use Rattle.fp_scenario_run.specs.Planned.{BreaksNoRule, BreaksRule}
use Rattle.fp_main.specs.Delivery.{SinkRun, Adds, OutFailed, DiagFailed}
use Rattle.fp_main.specs.Delivery as delivery
use Rattle.fp_gather.specs.FilesRun.{FilesRun, HadFault, HadMiss, NoFault, NoMiss, Holds}
use Rattle.fp_main.specs.Broken.{SourceBroken}
use Rattle.fp_main.specs.Lines.{usage_line, refusal_line, read_fault_line, no_file_line, no_topology_line, no_memory_line, scenario_line}
use Rattle.fp_main.specs.Output.{IsRead, IsDue, IsScenarioRead, IsText, Reaches, load_run, tables_of}
use Rattle.fp_main.specs.Topologies.{HasTopology, IsTopology, LacksTopology}
use Rattle.fp_main.specs.Words.{AsksFor, IsMake, IsRun, IsWrong, NamesTopology, load_words}
use Rattle.fp_gather.specs.gathering.Gathered.{IsAbsent, IsUnread, StandsAmong, name_of, names_read, source_of}
use Rattle.fp_gather.specs.gathering.Walks.{NoFile as IsMissing, Outcome, Stops, Walked, WalksFiles, Went, nothing_read}
use Rattle.fp_main.specs.declared.status.Status.{Status}
use Rattle.fp_main.specs.declared.status.Status.TheVariants.{Done, Refused, Usage, ReadFault, WriteFault, NoFile, Stuck, Spent, Asserted, NoMemory, NoTopology}

-- the status is this one, unless a write failed or memory was refused
abbrev pub EndsAs : Status → Status → Type 0
EndsAs wanted status = (status ≡ wanted) ⊎ ((status ≡ WriteFault) ⊎ (status ≡ NoMemory))

-- the one line is this, and out got nothing
abbrev pub Says : List ℕ → SinkRun → SinkRun → Type 0
Says line out diag = Adds [] out × Adds line diag

-- no read failed: the count of faults stayed, below its last value
abbrev pub Sound : FilesRun → Type 0
Sound files = NoFault files × (files.faults_before < last_count)

-- no write failed
abbrev pub SoundSink : SinkRun → Type 0
SoundSink run = delivery.NoFault run × (run.faults_before < last_count)

-- the files tell what they hold, and by this the reading of those that the words ask for ends so
pub record Asked (words : List (List ℕ)) (files : FilesRun) (outcome : Outcome (List (List Member))) : Type 0 where
  pub held : List HeldFile
  pub told : files.told ≡ Some held
  pub names : List (List ℕ)
  pub asked : AsksFor words names
  pub walks : WalksFiles (Some held) names nothing_read outcome

-- it holds of the words and the files; or the words are `make COUNT`, and it holds of the words and the files of the load, of which counts are told
abbrev pub OrOfLoad : (RunText → List (List ℕ) → FilesRun → Type 0) → List (List ℕ) → FilesRun → Type 0
OrOfLoad P words files = P Log words files ⊎ ((instances : ℕ) × IsMake words instances × P (Counts instances) load_words (load_run instances))

-- ---- what stands written

abbrev pub UsageMeans : List (List ℕ) → FilesRun → SinkRun → SinkRun → Status → Type 0
UsageMeans words files out diag status =
    status ≡ Usage → (word : ℕ) × IsWrong words word × NoFault files × NoMiss files × Says (usage_line word) out diag

-- the file of the name is one of those that the words ask for, with what these include, or the scenario
abbrev pub ReadFaultMeans : List (List ℕ) → FilesRun → SinkRun → SinkRun → Status → Type 0
ReadFaultMeans words files out diag status =
    status ≡ ReadFault → (name : List ℕ)
    × (((names : List (List ℕ)) × AsksFor words names × IsUnread names files name) ⊎ (Reaches words files name × HadFault files × NoMiss files))
    × Says (read_fault_line name) out diag

abbrev pub NoFileMeans : List (List ℕ) → FilesRun → SinkRun → SinkRun → Status → Type 0
NoFileMeans words files out diag status =
    status ≡ NoFile → (name : List ℕ)
    × (((names : List (List ℕ)) × AsksFor words names × IsAbsent names files name) ⊎ (Reaches words files name × NoFault files × HadMiss files))
    × Holds files name None × Says (no_file_line name) out diag

-- a rule of the source, the first that is broken
abbrev pub SourceRefused : List (List ℕ) → FilesRun → SinkRun → SinkRun → Type 0
SourceRefused words files out diag =
    (walked : Walked) × (source : Source) × (f : Refusal) × IsRead words files walked source × IsLeast (SourceBroken walked source) (Some f)
    × StandsAmong (names_read walked) f × Says (refusal_line (name_of (names_read walked) f.place.file) f.place f.rule) out diag

-- a rule of scenarios, at the path at which it is broken
abbrev pub ScenarioRefused : List (List ℕ) → FilesRun → SinkRun → SinkRun → Type 0
ScenarioRefused words files out diag =
    (scenario text : List ℕ) × (reached : Reaches words files scenario) × IsScenarioRead files scenario text
    × ((rule : Rule) × (path : List ℕ) × BreaksRule (tables_of reached.model reached.at) text rule path × Says (scenario_line scenario path rule) out diag)

abbrev pub RefusedMeans : List (List ℕ) → FilesRun → SinkRun → SinkRun → Status → Type 0
RefusedMeans words files out diag status =
    status ≡ Refused → OrOfLoad (λ told ws fs. SourceRefused ws fs out diag ⊎ ScenarioRefused ws fs out diag) words files

-- out got the text that the words ask for
abbrev pub WroteText : List (List ℕ) → FilesRun → SinkRun → Type 0
WroteText words files out =
    (walked : Walked) × (source : Source) × (read : IsRead words files walked source) × IsUnbroken (SourceBroken walked source)
    × ((model : Model) × Defined source model × ((text : List ℕ) × IsText words read.names model text × Adds text out))

-- out got what is to be told of a run of the model's tables and of the program that the scenario stands for, which has this end
abbrev pub WroteRun : Finish → RunText → List (List ℕ) → FilesRun → SinkRun → Type 0
WroteRun finish told words files out =
    (scenario text : List ℕ) × (reached : Reaches words files scenario) × IsScenarioRead files scenario text
    × ((written : List ℕ) × IsToldBy (tables_of reached.model reached.at) told text written finish × Adds written out)

abbrev pub DoneMeans : List (List ℕ) → FilesRun → SinkRun → SinkRun → Status → Type 0
DoneMeans words files out diag status =
    status ≡ Done → OrOfLoad (λ told ws fs. WroteText ws fs out ⊎ WroteRun Complete told ws fs out) words files × Adds [] diag

abbrev pub StuckMeans : List (List ℕ) → FilesRun → SinkRun → SinkRun → Status → Type 0
StuckMeans words files out diag status = status ≡ Stuck → OrOfLoad (λ told ws fs. WroteRun finish.Stuck told ws fs out) words files × Adds [] diag

abbrev pub SpentMeans : List (List ℕ) → FilesRun → SinkRun → SinkRun → Status → Type 0
SpentMeans words files out diag status = status ≡ Spent → OrOfLoad (λ told ws fs. WroteRun finish.Spent told ws fs out) words files × Adds [] diag

abbrev pub AssertedMeans : List (List ℕ) → FilesRun → SinkRun → SinkRun → Status → Type 0
AssertedMeans words files out diag status =
    status ≡ Asserted → OrOfLoad (λ told ws fs. WroteRun finish.Asserted told ws fs out) words files × Adds [] diag

-- no rule of the source is broken, and its model has no topology of the name in the words
abbrev pub SaidNoTopology : List (List ℕ) → FilesRun → SinkRun → SinkRun → Type 0
SaidNoTopology words files out diag =
    (walked : Walked) × (source : Source) × (read : IsRead words files walked source) × (name : List ℕ) × NamesTopology words name read.names
    × IsUnbroken (SourceBroken walked source) × ((model : Model) × Defined source model × LacksTopology model name) × Says (no_topology_line name) out diag

abbrev pub NoTopologyMeans : List (List ℕ) → FilesRun → SinkRun → SinkRun → Status → Type 0
NoTopologyMeans words files out diag status = status ≡ NoTopology → OrOfLoad (λ told ws fs. SaidNoTopology ws fs out diag) words files

-- out has a proper front of the output that was due, and diag the line that says so, or a proper front of it; or out has nothing,
-- and diag a proper front of the line that was due
abbrev pub WriteFaultMeans : List (List ℕ) → FilesRun → SinkRun → SinkRun → Status → Type 0
WriteFaultMeans words files out diag status =
    status ≡ WriteFault → (due : Status) × (output line : List ℕ) × IsDue words files due output line
    × (OutFailed output out diag status ⊎ (DiagFailed output line out diag status × Adds [] out))

abbrev pub NoMemoryMeans : SinkRun → SinkRun → Status → Type 0
NoMemoryMeans out diag status = status ≡ NoMemory → Says no_memory_line out diag

-- ---- when each comes

abbrev pub UsageComes : List (List ℕ) → Status → Type 0
UsageComes words status = (word : ℕ) → IsWrong words word → EndsAs Usage status

abbrev pub ReadFaultComes : FilesRun → Status → Type 0
ReadFaultComes files status = files.faults_before < files.faults_after → EndsAs ReadFault status

-- the topology that words name, where they name one, is in the model that a source defines
abbrev pub IsThere : List (List ℕ) → Source → Type 0
IsThere words source = (name : List ℕ) (names : List (List ℕ)) (model : Model) → NamesTopology words name names → Defined source model → HasTopology model name

-- by what the files tell, the words ask for a run of this scenario, no rule of the source is broken, and the topology is there
pub record RunAsked (words : List (List ℕ)) (files : FilesRun) (scenario : List ℕ) : Type 0 where
  pub walked : Walked
  pub units : List (List Member)
  pub asked : Asked words files (Went walked units)
  pub unbroken : IsUnbroken (SourceBroken walked (source_of walked units))
  pub there : IsThere words (source_of walked units)
  pub topology : List ℕ
  pub names : List (List ℕ)
  pub run : IsRun words topology scenario names

-- a model that the source defines, with its topology of the name
abbrev pub AreTables : Source → List ℕ → Described → Type 0
AreTables source topology t = Defined source t.model × IsTopology t.model topology t.topology

abbrev pub NoFileComes : List (List ℕ) → FilesRun → Status → Type 0
NoFileComes words files status =
    (files.misses_before < files.misses_after → EndsAs NoFile status)
    × ((name : List ℕ) → Asked words files (Stops (IsMissing name)) → Sound files → EndsAs NoFile status)
    × ((scenario : List ℕ) → RunAsked words files scenario → Holds files scenario None → Sound files → EndsAs NoFile status)

abbrev pub WriteFaultComes : SinkRun → SinkRun → Status → Type 0
WriteFaultComes out diag status = (out.faults_before < out.faults_after) ⊎ (diag.faults_before < diag.faults_after) → status ≡ WriteFault

abbrev pub RefusedComes : List (List ℕ) → FilesRun → Status → Type 0
RefusedComes words files status =
    (walked : Walked) (units : List (List Member)) (f : Refusal)
    → Asked words files (Went walked units) → SourceBroken walked (source_of walked units) f → Sound files → EndsAs Refused status

-- the words ask for no run
abbrev pub AsksForNoRun : List (List ℕ) → Type 0
AsksForNoRun words = (topology scenario : List ℕ) (names : List (List ℕ)) → IsRun words topology scenario names → ⊥

-- nothing is broken, no topology is missing, and nothing failed
abbrev pub DoneComes : List (List ℕ) → FilesRun → SinkRun → SinkRun → Status → Type 0
DoneComes words files out diag status =
    (walked : Walked) (units : List (List Member))
    → Asked words files (Went walked units) → AsksForNoRun words → IsUnbroken (SourceBroken walked (source_of walked units)) → IsThere words (source_of walked units)
    → Sound files → SoundSink out → SoundSink diag → (status ≡ Done) ⊎ (status ≡ NoMemory)

-- whatever model the source defines, the text of the scenario breaks a rule there
abbrev pub ScenarioRefusedComes : List (List ℕ) → FilesRun → Status → Type 0
ScenarioRefusedComes words files status =
    (scenario text : List ℕ) (asked : RunAsked words files scenario) → Holds files scenario (Some text)
    → ((t : Described) → AreTables (source_of asked.walked asked.units) asked.topology t → (rule : Rule) × (path : List ℕ) × BreaksRule t text rule path)
    → Sound files → EndsAs Refused status

-- one of the four ends of runs
abbrev pub IsEnd : Status → Type 0
IsEnd status = (status ≡ Done) ⊎ ((status ≡ Stuck) ⊎ ((status ≡ Spent) ⊎ (status ≡ Asserted)))

-- whatever model the source defines, the text of the scenario breaks no rule there, and nothing failed
abbrev pub RunComes : List (List ℕ) → FilesRun → SinkRun → SinkRun → Status → Type 0
RunComes words files out diag status =
    (scenario text : List ℕ) (asked : RunAsked words files scenario) → Holds files scenario (Some text)
    → ((t : Described) → AreTables (source_of asked.walked asked.units) asked.topology t → BreaksNoRule t text)
    → Sound files → SoundSink out → SoundSink diag → IsEnd status ⊎ (status ≡ NoMemory)

-- nothing is broken, and the model that the source defines has no topology of the name in the words
abbrev pub NoTopologyComes : List (List ℕ) → FilesRun → Status → Type 0
NoTopologyComes words files status =
    (walked : Walked) (units : List (List Member)) (name : List ℕ) (names : List (List ℕ))
    → Asked words files (Went walked units) → IsUnbroken (SourceBroken walked (source_of walked units)) → NamesTopology words name names
    → ((model : Model) → Defined (source_of walked units) model → LacksTopology model name) → Sound files → EndsAs NoTopology status

-- what comes of a run of the load, by what its files tell
pub record LoadComes (files : FilesRun) (out diag : SinkRun) (status : Status) : Type 0 where
  pub refused : RefusedComes load_words files status
  pub no_topology : NoTopologyComes load_words files status
  pub scenario_refused : ScenarioRefusedComes load_words files status
  pub run : RunComes load_words files out diag status

-- the words are `make COUNT`
abbrev pub MakeComes : List (List ℕ) → SinkRun → SinkRun → Status → Type 0
MakeComes words out diag status = (instances : ℕ) → IsMake words instances → LoadComes (load_run instances) out diag status
