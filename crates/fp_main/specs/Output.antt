-- What a call has to write, and its status where every write succeeds.
use Rattle.std.specs.Prelude.{ℕ, ◌≡◌, ◌⊎◌, List, [], Some, None}
use Rattle.fp_base.specs.declared.refusal.Refusal.{Refusal}
use Rattle.fp_base.specs.declared.rule.Rule.{Rule}
use Rattle.fp_tree.specs.declared.member.Member.{Member}
use Rattle.fp_tree.specs.declared.source.Source.{Source}
use Rattle.fp_base.specs.Least.{IsLeast, IsUnbroken}
use Rattle.fp_model.specs.Broken.{ModelBroken}
use Rattle.fp_model.specs.Defined.{Defined}
use Rattle.fp_tables.specs.declared.model.Model.{Model}
use Rattle.fp_main.specs.Delivery.{SinkRun, Delivered}
use Rattle.fp_gather.specs.FilesRun.{FilesRun, HadFault, HadMiss, Holds, NoFault, NoMiss}
use Rattle.fp_gather.specs.gathering.Gathered.{AreRead, IsAbsent, IsUnread, StandsAmong, name_of, names_read, source_of}
use Rattle.fp_gather.specs.gathering.Walks.{Walked, WalksFiles, Went, nothing_read}
use Rattle.fp_main.specs.Broken.{SourceBroken}
use Rattle.fp_main.specs.Lines.{usage_line, refusal_line, read_fault_line, no_file_line, no_topology_line, no_memory_line, scenario_line}
use Rattle.fp_listing.specs.Listing.{Listing, PortLines}
use Rattle.fp_dictionary.specs.Dictionary.{IsDictionaryText}
use Rattle.fp_tables.specs.Lookup.{Described}
use Rattle.fp_events.specs.declared.event.Finish.{Finish}
use Rattle.fp_events.specs.declared.event.Finish.TheVariants as finish
use Rattle.fp_events.specs.declared.event.Finish.TheVariants.{Complete}
use Rattle.fp_main.specs.Held.{load_files}
use Rattle.fp_scenario_run.specs.Told.{IsToldBy}
use Rattle.fp_scenario_run.specs.Planned.{BreaksNoRule, BreaksRule}
use Rattle.fp_main.specs.Topologies.{IsTopology, LacksTopology}
use Rattle.fp_scenario_run.specs.declared.scenario.RunText.{RunText}
use Rattle.fp_scenario_run.specs.declared.scenario.RunText.TheVariants.{Log, Counts}
use Rattle.fp_main.specs.Words.{AsksFor, IsCheck, IsMake, IsRun, IsWrong, Names, NamesTopology, load_words}
use Rattle.fp_main.specs.declared.words.TopologyText.{TopologyText}
use Rattle.fp_main.specs.declared.words.TopologyText.TheVariants.{Connections, Dictionary}
use Rattle.fp_main.specs.declared.status.Status.{Status}
use Rattle.fp_main.specs.declared.status.Status.TheVariants.{Done, Refused, Usage, ReadFault, NoFile, Stuck, Spent, Asserted, NoMemory, NoTopology}

-- the words have no form, and the line names the first that doesn't fit or is missing; no file is read
pub record DueUsage (words : List (List ℕ)) (files : FilesRun) (output line : List ℕ) : Type 0 where
  pub word : ℕ
  pub wrong : IsWrong words word
  pub unread : NoFault files × NoMiss files
  pub silent : output ≡ []
  pub said : line ≡ usage_line word

-- a file asked for could not be read
pub record DueReadFault (words : List (List ℕ)) (files : FilesRun) (output line : List ℕ) : Type 0 where
  pub names : List (List ℕ)
  pub asked : AsksFor words names
  pub name : List ℕ
  pub unread : IsUnread names files name
  pub silent : output ≡ []
  pub said : line ≡ read_fault_line name

-- a file asked for isn't there
pub record DueNoFile (words : List (List ℕ)) (files : FilesRun) (output line : List ℕ) : Type 0 where
  pub names : List (List ℕ)
  pub asked : AsksFor words names
  pub name : List ℕ
  pub absent : IsAbsent names files name
  pub silent : output ≡ []
  pub said : line ≡ no_file_line name

-- the files asked for were read, and give a source
pub record IsRead (words : List (List ℕ)) (files : FilesRun) (walked : Walked) (source : Source) : Type 0 where
  pub names : List (List ℕ)
  pub asked : AsksFor words names
  pub read : AreRead names files walked source

-- a rule is broken, the first, in the file that the line names
pub record SaysBroken (broken : Refusal → Type 0) (names : List (List ℕ)) (output line : List ℕ) : Type 0 where
  pub refusal : Refusal
  pub first : IsLeast broken (Some refusal)
  pub silent : output ≡ []
  pub said : line ≡ refusal_line (name_of names refusal.place.file) refusal.place refusal.rule

-- a rule is broken in the source, in one of the files that were read
pub record DueRefused (words : List (List ℕ)) (files : FilesRun) (output line : List ℕ) : Type 0 where
  pub walked : Walked
  pub source : Source
  pub read : IsRead words files walked source
  pub says : SaysBroken (SourceBroken walked source) (names_read walked) output line
  pub among : StandsAmong (names_read walked) says.refusal

-- a text of the topology at a position: its connections, or its dictionary
abbrev pub IsTopologyText : TopologyText → Model → ℕ → List ℕ → Type 0
IsTopologyText Connections model at text = text ≡ PortLines model at
IsTopologyText Dictionary model at text = IsDictionaryText model at text

-- the words ask for this text of a model: its listing, or the text of the topology that they name
abbrev pub IsText : List (List ℕ) → List (List ℕ) → Model → List ℕ → Type 0
IsText words names model text =
    (IsCheck words names × (text ≡ Listing model))
    ⊎ ((topology : List ℕ) × (wanted : TopologyText) × Names wanted words topology names × ((at : ℕ) × IsTopology model topology at × IsTopologyText wanted model at text))

-- the text that the words ask for, of the model that the source defines
pub record DueText (words : List (List ℕ)) (files : FilesRun) (output line : List ℕ) : Type 0 where
  pub walked : Walked
  pub source : Source
  pub read : IsRead words files walked source
  pub unbroken : IsUnbroken (SourceBroken walked source)
  pub model : Model
  pub defined : Defined source model
  pub text : IsText words read.names model output
  pub silent : line ≡ []

-- no rule is broken, and the model that the source defines has no topology of the name in the words
pub record DueNoTopology (words : List (List ℕ)) (files : FilesRun) (output line : List ℕ) : Type 0 where
  pub walked : Walked
  pub source : Source
  pub read : IsRead words files walked source
  pub topology : List ℕ
  pub named : NamesTopology words topology read.names
  pub unbroken : IsUnbroken (SourceBroken walked source)
  pub model : Model
  pub defined : Defined source model
  pub lacking : LacksTopology model topology
  pub silent : output ≡ []
  pub said : line ≡ no_topology_line topology

-- ---- runs

-- the words ask for a run of this scenario, the files are read and break no rule, and the model that their source defines has the topology
pub record Reaches (words : List (List ℕ)) (files : FilesRun) (scenario : List ℕ) : Type 0 where
  pub names : List (List ℕ)
  pub topology : List ℕ
  pub asked : IsRun words topology scenario names
  pub walked : Walked
  pub units : List (List Member)
  pub read : WalksFiles files.told names nothing_read (Went walked units)
  pub unbroken : IsUnbroken (SourceBroken walked (source_of walked units))
  pub model : Model
  pub defined : Defined (source_of walked units) model
  pub at : ℕ
  pub there : IsTopology model topology at

-- the model with the topology at a position
abbrev pub tables_of : Model → ℕ → Described
tables_of model at = record { model = model; topology = at }

-- no read failed and each found its file
abbrev pub AllWereRead : FilesRun → Type 0
AllWereRead files = NoFault files × NoMiss files

-- no read failed and each found its file, and the file of the scenario holds this text
pub record IsScenarioRead (files : FilesRun) (scenario text : List ℕ) : Type 0 where
  pub sound : NoFault files
  pub found : NoMiss files
  pub held : Holds files scenario (Some text)

-- what is told of a run of the tables by the scenario's text, which has this end
pub record GivesRun (told : RunText) (finish : Finish) (files : FilesRun) (scenario : List ℕ) (t : Described) (output line : List ℕ) : Type 0 where
  pub text : List ℕ
  pub read : IsScenarioRead files scenario text
  pub whole : BreaksNoRule t text
  pub tells : IsToldBy t told text output finish
  pub silent : line ≡ []

-- a rule of scenarios is broken at a path
pub record SaysScenarioBroken (files : FilesRun) (scenario : List ℕ) (t : Described) (output line : List ℕ) : Type 0 where
  pub text : List ℕ
  pub read : IsScenarioRead files scenario text
  pub rule : Rule
  pub path : List ℕ
  pub broken : BreaksRule t text rule path
  pub silent : output ≡ []
  pub said : line ≡ scenario_line scenario path rule

-- the file of the scenario could not be read
pub record SaysScenarioUnread (files : FilesRun) (scenario output line : List ℕ) : Type 0 where
  pub fault : HadFault files
  pub found : NoMiss files
  pub silent : output ≡ []
  pub said : line ≡ read_fault_line scenario

-- the file of the scenario isn't there
pub record SaysScenarioAbsent (files : FilesRun) (scenario output line : List ℕ) : Type 0 where
  pub sound : NoFault files
  pub missed : HadMiss files
  pub absent : Holds files scenario None
  pub silent : output ≡ []
  pub said : line ≡ no_file_line scenario

-- the same, where the words ask for it
pub record DueRun (told : RunText) (finish : Finish) (words : List (List ℕ)) (files : FilesRun) (output line : List ℕ) : Type 0 where
  pub scenario : List ℕ
  pub reached : Reaches words files scenario
  pub gives : GivesRun told finish files scenario (tables_of reached.model reached.at) output line

pub record DueScenarioRefused (words : List (List ℕ)) (files : FilesRun) (output line : List ℕ) : Type 0 where
  pub scenario : List ℕ
  pub reached : Reaches words files scenario
  pub says : SaysScenarioBroken files scenario (tables_of reached.model reached.at) output line

pub record DueScenarioUnread (words : List (List ℕ)) (files : FilesRun) (output line : List ℕ) : Type 0 where
  pub scenario : List ℕ
  pub reached : Reaches words files scenario
  pub says : SaysScenarioUnread files scenario output line

pub record DueScenarioAbsent (words : List (List ℕ)) (files : FilesRun) (output line : List ℕ) : Type 0 where
  pub scenario : List ℕ
  pub reached : Reaches words files scenario
  pub says : SaysScenarioAbsent files scenario output line

-- ---- what is due of a model and of a source, of which the files are read

-- a run of the tables by the scenario in the file of this name
abbrev pub IsDueOfRun : RunText → FilesRun → List ℕ → Described → Status → List ℕ → List ℕ → Type 0
IsDueOfRun told files scenario t Done output line = GivesRun told Complete files scenario t output line
IsDueOfRun told files scenario t Stuck output line = GivesRun told finish.Stuck files scenario t output line
IsDueOfRun told files scenario t Spent output line = GivesRun told finish.Spent files scenario t output line
IsDueOfRun told files scenario t Asserted output line = GivesRun told finish.Asserted files scenario t output line
IsDueOfRun told files scenario t Refused output line = SaysScenarioBroken files scenario t output line
IsDueOfRun told files scenario t ReadFault output line = SaysScenarioUnread files scenario output line
IsDueOfRun told files scenario t NoFile output line = SaysScenarioAbsent files scenario output line
IsDueOfRun told files scenario t _ output line = ⊥

-- a text of a model, or that it has no topology of the name in the words
abbrev pub IsDueOfText : List (List ℕ) → List (List ℕ) → Model → Status → List ℕ → List ℕ → Type 0
IsDueOfText words names model Done output line = IsText words names model output × (line ≡ [])
IsDueOfText words names model NoTopology output line =
    ((topology : List ℕ) × NamesTopology words topology names × LacksTopology model topology × (line ≡ no_topology_line topology)) × (output ≡ [])
IsDueOfText words names model _ output line = ⊥

-- a run over the topology in the words
pub record IsDueOfReached (told : RunText) (words names : List (List ℕ)) (files : FilesRun) (model : Model) (status : Status) (output line : List ℕ) : Type 0 where
  pub topology : List ℕ
  pub scenario : List ℕ
  pub asked : IsRun words topology scenario names
  pub at : ℕ
  pub there : IsTopology model topology at
  pub due : IsDueOfRun told files scenario (tables_of model at) status output line

-- what words that ask for these files have to write of a model
abbrev pub IsDueOf : RunText → List (List ℕ) → List (List ℕ) → FilesRun → Model → Status → List ℕ → List ℕ → Type 0
IsDueOf told words names files model status output line =
    (AllWereRead files × IsDueOfText words names model status output line) ⊎ IsDueOfReached told words names files model status output line

-- what they have to write for a source whose files and includes break no rule
abbrev pub IsDueFor : RunText → List (List ℕ) → List (List ℕ) → FilesRun → Source → Status → List ℕ → List ℕ → Type 0
IsDueFor told words names files source status output line =
    ((status ≡ Refused) × AllWereRead files × SaysBroken (ModelBroken source) source.names output line)
    ⊎ (IsUnbroken (ModelBroken source) × ((model : Model) × Defined source model × IsDueOf told words names files model status output line))

-- what words of a form with files, and wrong words, have to write for each status, where every write succeeds
abbrev pub IsDueOfFiles : RunText → List (List ℕ) → FilesRun → Status → List ℕ → List ℕ → Type 0
IsDueOfFiles told words files Done output line = DueText words files output line ⊎ DueRun told Complete words files output line
IsDueOfFiles told words files Stuck output line = DueRun told finish.Stuck words files output line
IsDueOfFiles told words files Spent output line = DueRun told finish.Spent words files output line
IsDueOfFiles told words files Asserted output line = DueRun told finish.Asserted words files output line
IsDueOfFiles told words files Refused output line = DueRefused words files output line ⊎ DueScenarioRefused words files output line
IsDueOfFiles told words files Usage output line = DueUsage words files output line
IsDueOfFiles told words files ReadFault output line = DueReadFault words files output line ⊎ DueScenarioUnread words files output line
IsDueOfFiles told words files NoFile output line = DueNoFile words files output line ⊎ DueScenarioAbsent words files output line
IsDueOfFiles told words files NoTopology output line = DueNoTopology words files output line
IsDueOfFiles told words files NoMemory output line = (output ≡ []) × (line ≡ no_memory_line)
IsDueOfFiles told words files _ output line = ⊥

-- the files that hold the load, of which no read fails or finds nothing
abbrev pub load_run : ℕ → FilesRun
load_run instances = record { told = Some (load_files instances); faults_before = 0; faults_after = 0; misses_before = 0; misses_after = 0 }

-- the words are `make COUNT`, and this is due of a run of the load, of which its counts are told; the files of the call aren't read
pub record DueOfLoad (words : List (List ℕ)) (files : FilesRun) (status : Status) (output line : List ℕ) : Type 0 where
  pub instances : ℕ
  pub asked : IsMake words instances
  pub unread : AllWereRead files
  pub due : IsDueOfFiles (Counts instances) load_words (load_run instances) status output line

-- what has to be written for each status, where every write succeeds
abbrev pub IsDue : List (List ℕ) → FilesRun → Status → List ℕ → List ℕ → Type 0
IsDue words files status output line = IsDueOfFiles Log words files status output line ⊎ DueOfLoad words files status output line

-- what a call writes, and its status
pub record Output (words : List (List ℕ)) (files : FilesRun) (out diag : SinkRun) (status : Status) : Type 0 where
  pub due : Status
  pub output : List ℕ
  pub line : List ℕ
  pub called : IsDue words files due output line
  pub delivered : Delivered due output line out diag status
