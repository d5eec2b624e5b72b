-- What is due for words with a form, from what gathering, resolving and running answer.
use Rattle.std.proofs.Common.{◌≡◌, ℕ, List, [], ◌∷◌, Option, Some, None, Result, Ok, Err, IfOk, codes, inl, inr, lit<, refl, sym, ap, ◌∙◌, subst}
use Rattle.fp_main.specs.Held.{both_files}
use Rattle.fp_main.specs.Load.{scenario_text, source_text}
use Rattle.fp_main.specs.declared.load_files.LoadFiles.{LoadFiles}
use Rattle.fp_outside.specs.declared.files.HeldFile.{HeldFile}
use Rattle.fp_base.specs.declared.refusal.Refusal.{Refusal}
use Rattle.fp_base.specs.Least.{IsLeast, IsUnbroken}
use Rattle.fp_base.proofs.Calculus.{least_none, none_broken}
use Rattle.fp_tree.specs.declared.member.Member.{Member}
use Rattle.fp_tree.specs.declared.source.Source.{Source}
use Rattle.fp_tables.specs.declared.model.Model.{Model}
use Rattle.fp_source_parts.specs.Broken.{PartsBroken}
use Rattle.fp_source_parts.specs.TopologyBroken.{SourceInstancesBroken, SourceNumbersBroken, SourceTopologiesBroken}
use Rattle.fp_model.specs.Broken.{ModelBroken, StatesBroken, ValuesBroken, phases}
use Rattle.fp_model.specs.Defined.{Defined}
use Rattle.fp_model.specs.Phases.{InPhases}
use Rattle.fp_source_laws.specs.Standing.{IsPlaceOf}
use Rattle.fp_gather.proofs.AmongRead.{InFilesRead, PlacesInFiles}
use Rattle.fp_gather.specs.FilesRun.{FilesRun, NoFault, NoMiss, files_run}
use Rattle.fp_gather.specs.gathering.Gathered.{AreRead, FilesBroken, Gathers, StandsAmong, name_of, names_read, source_of}
use Rattle.fp_gather.specs.gathering.Walks.{Walked, WalksFiles, Went, nothing_read}
use Rattle.fp_gather.specs.declared.gathering.Halt.{Halt}
use Rattle.fp_gather.specs.declared.gathering.Halt.TheVariants as halt
use Rattle.fp_main.proofs.SourcePhases.{behind_least, first_least}
use Rattle.fp_main.specs.Broken.{SourceBroken}
use Rattle.fp_main.specs.Lines.{no_file_line, no_topology_line, read_fault_line, refusal_line}
use Rattle.fp_listing.specs.Listing.{Listing}
use Rattle.fp_main.specs.Output.{AllWereRead, DueNoFile, DueReadFault, DueRefused, IsDue, IsDueFor, IsDueOf, IsDueOfFiles, IsDueOfReached, IsDueOfRun, IsDueOfText, IsTopologyText, Reaches, SaysBroken, load_run, tables_of}
use Rattle.fp_main.specs.Topologies.{IsTopology, LacksTopology}
use Rattle.fp_main.specs.Words.{AsksFor, IsCheck, IsMake, IsRun, Names, NamesTopology, Spells, load_words}
use Rattle.fp_scenario_run.specs.declared.scenario.RunText.{RunText}
use Rattle.fp_scenario_run.specs.declared.scenario.RunText.TheVariants.{Log, Counts}
use Rattle.fp_main.specs.declared.words.Wanted.{Wanted}
use Rattle.fp_main.specs.declared.words.Wanted.TheVariants.{Listing as Listed, OfTopology, Run}
use Rattle.fp_main.specs.declared.words.TopologyText.{TopologyText}
use Rattle.fp_main.specs.declared.answer.Due.{Due}
use Rattle.fp_main.specs.declared.status.Status.{Status}
use Rattle.fp_main.specs.declared.status.Status.TheVariants.{Done, Refused, Usage, ReadFault, WriteFault, NoFile, Stuck, Spent, Asserted, NoMemory, NoTopology}

-- what is broken in these is at places of the source
abbrev AtPlaces : (Source → Refusal → Type 0) → Type 0
AtPlaces Broken = (source : Source) (f : Refusal) → Broken source f → IsPlaceOf source f.place

pub record FaultsStand : Type 0 where
  pub values : AtPlaces ValuesBroken
  pub parts : AtPlaces PartsBroken
  pub states : AtPlaces StatesBroken
  pub instances : AtPlaces SourceInstancesBroken
  pub topologies : AtPlaces SourceTopologiesBroken
  pub numbers : (source : Source) (f : Refusal) → IsUnbroken (SourceTopologiesBroken source) → SourceNumbersBroken source f → IsPlaceOf source f.place

-- the least of what is broken behind the files
source_least : (walked : Walked) (source : Source) (o : Option Refusal) → IsUnbroken (FilesBroken walked) → IsLeast (ModelBroken source) o → IsLeast (SourceBroken walked source) o
source_least walked source o clean l = behind_least walked source (phases source) clean o l

-- words that spell what is wanted ask for their files
pub spelled_asks : (told : RunText) (words : List (List ℕ)) (wanted : Wanted) (names : List (List ℕ)) → Spells told words wanted names → AsksFor words names
spelled_asks told words Listed names check = inl check
spelled_asks told words (OfTopology text name) names named = inr (name.now, inl (text, named))
spelled_asks told words (Run asked) names run = inr (asked.topology.now, inr (asked.scenario.now, run.1))

module _ (words names : List (List ℕ)) where
  -- what is told of a run
  pub as_told : {E : Type 0} (files : FilesRun) (model : Model) (r : Result Due E) (text told : RunText) → text ≡ told
      → IfOk r (λ due. IsDueOf text words names files model due.status due.output due.line) → IfOk r (λ due. IsDueOf told words names files model due.status due.output due.line)
  as_told files model r text told same = subst (λ (x : RunText). IfOk r (λ due. IsDueOf x words names files model due.status due.output due.line)) same

  -- what is due of a model
  pub due_listing : (model : Model) (due : Due) (text : List ℕ) → due ≡ record { status = Done; output = text; line = [] } → text ≡ Listing model → IsCheck words names
      → IsDueOfText words names model due.status due.output due.line
  due_listing model due text is listed check = subst (λ (d : Due). IsDueOfText words names model d.status d.output d.line) (sym is) (inl (check, listed), refl)

  pub due_topology : (model : Model) (due : Due) (wanted : TopologyText) (text topology : List ℕ) (at : ℕ) → due ≡ record { status = Done; output = text; line = [] }
      → IsTopologyText wanted model at text → IsTopology model topology at → Names wanted words topology names → IsDueOfText words names model due.status due.output due.line
  due_topology model due wanted text topology at is said there named =
      subst (λ (d : Due). IsDueOfText words names model d.status d.output d.line) (sym is) (inr (topology, wanted, named, (at, there, said)), refl)

  pub due_no_topology : (model : Model) (due : Due) (topology : List ℕ) → due ≡ record { status = NoTopology; output = []; line = no_topology_line topology }
      → LacksTopology model topology → NamesTopology words topology names → IsDueOfText words names model due.status due.output due.line
  due_no_topology model due topology is lacking named =
      subst (λ (d : Due). IsDueOfText words names model d.status d.output d.line) (sym is) ((topology, named, lacking, refl), refl)

  pub due_refused : (told : RunText) (files : FilesRun) (source : Source) (refusal : Refusal) (due : Due) → AllWereRead files
      → due ≡ record { status = Refused; output = []; line = refusal_line (name_of source.names refusal.place.file) refusal.place refusal.rule }
      → IsLeast (ModelBroken source) (Some refusal) → IsDueFor told words names files source due.status due.output due.line
  due_refused told files source refusal due all is first =
      subst (λ (d : Due). IsDueFor told words names files source d.status d.output d.line) (sym is)
      (inl (refl, all, record { refusal = refusal; first = first; silent = refl; said = refl }))

-- a rule that is broken in the source stands in one of the files that were read
model_among : InFilesRead → PlacesInFiles → FaultsStand
    → (names : List (List ℕ)) (files : FilesRun) (walked : Walked) (source : Source) (f : Refusal)
    → AreRead names files walked source → ModelBroken source f → StandsAmong (names_read walked) f
model_among among places placed names files walked source f read broken =
    go (subst (λ (s : Source). ModelBroken s f) read.made broken)
  where
    at_place : IsPlaceOf (source_of walked read.units) f.place → StandsAmong (names_read walked) f
    at_place p = places files.told names walked read.units p.0 f.place read.read p.1 p.2

    behind : InPhases (SourceInstancesBroken (source_of walked read.units) ∷ SourceTopologiesBroken (source_of walked read.units) ∷ SourceNumbersBroken (source_of walked read.units) ∷ []) f → StandsAmong (names_read walked) f
    behind (inl b) = at_place (placed.instances (source_of walked read.units) f b)
    behind (inr (inl b, still)) = at_place (placed.topologies (source_of walked read.units) f b)
    behind (inr (inr (inl b, calm), still)) = at_place (placed.numbers (source_of walked read.units) f calm b)
    behind (inr (inr (inr (b, last), calm), still)) = absurd b

    go : ModelBroken (source_of walked read.units) f → StandsAmong (names_read walked) f
    go (inl b) = among files.told names walked read.units f read.read (inr b)
    go (inr (inl b, quiet)) = at_place (placed.values (source_of walked read.units) f b)
    go (inr (inr (inl b, still), quiet)) = at_place (placed.parts (source_of walked read.units) f b)
    go (inr (inr (inr (inl b, calm), still), quiet)) = at_place (placed.states (source_of walked read.units) f b)
    go (inr (inr (inr (inr (b, last), calm), still), quiet)) = behind b

-- what a run writes that the words reach
due_run : (told : RunText) (words : List (List ℕ)) (files : FilesRun) (scenario : List ℕ) (reached : Reaches words files scenario) (status : Status) (output line : List ℕ)
    → IsDueOfRun told files scenario (tables_of reached.model reached.at) status output line → IsDueOfFiles told words files status output line
due_run told words files scenario reached Done output line d = inr (record { scenario = scenario; reached = reached; gives = d })
due_run told words files scenario reached Stuck output line d = record { scenario = scenario; reached = reached; gives = d }
due_run told words files scenario reached Spent output line d = record { scenario = scenario; reached = reached; gives = d }
due_run told words files scenario reached Asserted output line d = record { scenario = scenario; reached = reached; gives = d }
due_run told words files scenario reached Refused output line d = inr (record { scenario = scenario; reached = reached; says = d })
due_run told words files scenario reached ReadFault output line d = inr (record { scenario = scenario; reached = reached; says = d })
due_run told words files scenario reached NoFile output line d = inr (record { scenario = scenario; reached = reached; says = d })
due_run told words files scenario reached Usage output line d = absurd d
due_run told words files scenario reached WriteFault output line d = absurd d
due_run told words files scenario reached NoMemory output line d = absurd d
due_run told words files scenario reached NoTopology output line d = absurd d

module _ (told : RunText) (words names : List (List ℕ)) (files : FilesRun) (asked : AsksFor words names) where
  -- a text of a model of files that break no rule
  due_text : (walked : Walked) (source : Source) (read : AreRead names files walked source) (model : Model) (status : Status) (output line : List ℕ)
      → IsUnbroken (SourceBroken walked source) → Defined source model → IsDueOfText words names model status output line → IsDueOfFiles told words files status output line
  due_text walked source read model Done output line unbroken defined d = inl (record {
    walked = walked;
    source = source;
    read = record { names = names; asked = asked; read = read };
    unbroken = unbroken;
    model = model;
    defined = defined;
    text = d.0;
    silent = d.1;
  })
  due_text walked source read model NoTopology output line unbroken defined d =
      let lacks = d.0 in
      record {
        walked = walked;
        source = source;
        read = record { names = names; asked = asked; read = read };
        topology = lacks.0;
        named = lacks.1;
        unbroken = unbroken;
        model = model;
        defined = defined;
        lacking = lacks.2;
        silent = d.1;
        said = lacks.3;
      }
  due_text walked source read model Refused output line unbroken defined d = absurd d
  due_text walked source read model Usage output line unbroken defined d = absurd d
  due_text walked source read model ReadFault output line unbroken defined d = absurd d
  due_text walked source read model WriteFault output line unbroken defined d = absurd d
  due_text walked source read model NoFile output line unbroken defined d = absurd d
  due_text walked source read model Stuck output line unbroken defined d = absurd d
  due_text walked source read model Spent output line unbroken defined d = absurd d
  due_text walked source read model Asserted output line unbroken defined d = absurd d
  due_text walked source read model NoMemory output line unbroken defined d = absurd d

  -- a rule of the source is broken
  due_says : InFilesRead → PlacesInFiles → FaultsStand → (walked : Walked) (source : Source) (read : AreRead names files walked source) (output line : List ℕ)
      → IsUnbroken (FilesBroken walked) → SaysBroken (ModelBroken source) source.names output line → DueRefused words files output line
  due_says among places placed walked source read output line clean d = record {
    walked = walked;
    source = source;
    read = record { names = names; asked = asked; read = read };
    says = record {
      refusal = d.refusal;
      first = source_least walked source (Some d.refusal) clean d.first;
      silent = d.silent;
      said = d.said ∙ ap (λ (ns : List (List ℕ)). refusal_line (name_of ns d.refusal.place.file) d.refusal.place d.refusal.rule) (ap (λ (s : Source). s.names) read.made);
    };
    among = model_among among places placed names files walked source d.refusal read (d.first.holds d.refusal refl);
  }

  -- a run over a topology of the source's model
  due_reached : (walked : Walked) (source : Source) (units : List (List Member)) (model : Model) (status : Status) (output line : List ℕ)
      → source ≡ source_of walked units → WalksFiles files.told names nothing_read (Went walked units) → IsUnbroken (SourceBroken walked source) → Defined source model
      → IsDueOfReached told words names files model status output line → IsDueOfFiles told words files status output line
  due_reached walked source units model status output line made read unbroken defined d =
      let reached : Reaches words files d.scenario = record {
        names = names;
        topology = d.topology;
        asked = d.asked;
        walked = walked;
        units = units;
        read = read;
        unbroken = subst (λ (s : Source). IsUnbroken (SourceBroken walked s)) made unbroken;
        model = model;
        defined = subst (λ (s : Source). Defined s model) made defined;
        at = d.at;
        there = d.there;
      } in
      due_run told words files d.scenario reached status output line d.due

  -- files that break no rule of tokens, of the grammar or of includes; what is read behind them are the same files
  due_behind : InFilesRead → PlacesInFiles → FaultsStand
      → (walked : Walked) (source : Source) (units : List (List Member)) (status : Status) (output line : List ℕ) → WalksFiles files.told names nothing_read (Went walked units)
      → source ≡ source_of walked units → IsUnbroken (FilesBroken walked) → IsDueFor told words names files source status output line → IsDueOfFiles told words files status output line
  due_behind among places placed walked source units status output line read made clean (inl (is, all, d)) =
      subst (λ (s : Status). IsDueOfFiles told words files s output line) (sym is)
      (inl (due_says among places placed walked source (record { sound = all.0; found = all.1; units = units; read = read; made = made }) output line clean d))
  due_behind among places placed walked source units status output line read made clean (inr (unbroken, (model, defined, inl (all, d)))) =
      due_text walked source (record { sound = all.0; found = all.1; units = units; read = read; made = made }) model status output line
      (none_broken (source_least walked source None clean (least_none unbroken))) defined d
  due_behind among places placed walked source units status output line read made clean (inr (unbroken, (model, defined, inr d))) =
      due_reached walked source units model status output line made read (none_broken (source_least walked source None clean (least_none unbroken))) defined d

  -- files that break one
  pub due_broken : (h : Halt) (refusal : Refusal) (file output line : List ℕ) → h ≡ halt.Broken refusal file → Gathers names files (Err h)
      → output ≡ [] → line ≡ refusal_line file refusal.place refusal.rule → DueRefused words files output line
  due_broken h refusal file output line is g silent said =
      let b = subst (λ (x : Halt). Gathers names files (Err x)) is g in
      record {
        walked = b.walked;
        source = b.source;
        read = record { names = names; asked = asked; read = b.read };
        says = record {
          refusal = refusal;
          first = first_least b.walked b.source (phases b.source) b.some.0 b.some.1 refusal b.first;
          silent = silent;
          said = said ∙ ap (λ (name : List ℕ). refusal_line name refusal.place refusal.rule) b.named;
        };
        among = b.among;
      }

  -- a file that isn't there, or could not be read
  pub due_no_file : (h : Halt) (name line : List ℕ) → h ≡ halt.NoFile name → Gathers names files (Err h) → line ≡ no_file_line name → DueNoFile words files [] line
  due_no_file h name line is g said =
      record { names = names; asked = asked; name = name; absent = subst (λ (x : Halt). Gathers names files (Err x)) is g; silent = refl; said = said }

  pub due_read_fault : (h : Halt) (name line : List ℕ) → h ≡ halt.ReadFault name → Gathers names files (Err h) → line ≡ read_fault_line name → DueReadFault words files [] line
  due_read_fault h name line is g said =
      record { names = names; asked = asked; name = name; unread = subst (λ (x : Halt). Gathers names files (Err x)) is g; silent = refl; said = said }

-- ---- the files of the whole call

-- what was told before, and read behind files of which each was read, is what the whole read
module _ (told : RunText) {F : Type 0} (held : F → Option (List HeldFile)) (faults misses : F → ℕ) (before between after : F) where
  whole_is : held between ≡ held before → NoFault (files_run held faults misses before between) → NoMiss (files_run held faults misses before between)
      → files_run held faults misses between after ≡ files_run held faults misses before after
  whole_is same sound found i = record { told = same i; faults_before = sound i; faults_after = faults after; misses_before = found i; misses_after = misses after }

  -- files that break no rule of tokens, of the grammar or of includes
  pub due_source : (words names : List (List ℕ)) → AsksFor words names → InFilesRead → PlacesInFiles → FaultsStand
      → (source : Source) (status : Status) (output line : List ℕ) → held between ≡ held before → Gathers names (files_run held faults misses before between) (Ok source)
      → IsDueFor told words names (files_run held faults misses between after) source status output line → IsDueOfFiles told words (files_run held faults misses before after) status output line
  due_source words names asked among places placed source status output line same g d =
      subst (λ (files : FilesRun). IsDueOfFiles told words files status output line) (whole_is same g.1.sound g.1.found)
      (due_behind told words names (files_run held faults misses between after) asked among places placed g.0 source g.1.units status output line
      (subst (λ (t : Option (List HeldFile)). WalksFiles t names nothing_read (Went g.0 g.1.units)) (sym same) g.1.read) g.1.made g.2 d)

-- ---- the load

-- the words that stand for the load ask for a run of it
pub load_asked : (file : List ℕ) → file ≡ codes "make.fpp" → IsRun load_words (codes "Gen.T") (codes "make.json") (file ∷ [])
load_asked file is = record { words_are = ap (λ (f : List ℕ). codes "run" ∷ codes "Gen.T" ∷ codes "make.json" ∷ f ∷ []) (sym is); some = lit< tt }

-- what files hold that are those of the load
abbrev pub holding : LoadFiles → FilesRun
holding files = record { told = Some (both_files files.source files.scenario); faults_before = 0; faults_after = 0; misses_before = 0; misses_after = 0 }

pub load_due : {E : Type 0} (instances : ℕ) (files : LoadFiles) (r : Result Due E) → files ≡ record { source = source_text instances; scenario = scenario_text instances }
    → IfOk r (λ due. IsDueOfFiles (Counts instances) load_words (holding files) due.status due.output due.line)
    → IfOk r (λ due. IsDueOfFiles (Counts instances) load_words (load_run instances) due.status due.output due.line)
load_due instances files r are = subst (λ (f : LoadFiles). IfOk r (λ due. IsDueOfFiles (Counts instances) load_words (holding f) due.status due.output due.line)) are

-- where the words ask for the load, what is due of it is due
pub due_load : (words : List (List ℕ)) (files : FilesRun) (instances : ℕ) (due : Due) → IsMake words instances → AllWereRead files
    → IsDueOfFiles (Counts instances) load_words (load_run instances) due.status due.output due.line → IsDue words files due.status due.output due.line
due_load words files instances due asked unread d = inr (record { instances = instances; asked = asked; unread = unread; due = d })
