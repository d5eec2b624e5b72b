-- When each status comes, from what a call writes.
use Rattle.std.proofs.Common.{◌≡◌, ◌<◌, ◌⊎◌, ℕ, List, [], ◌∷◌, Option, Some, None, codes, inl, inr, refl, sym, ◌∙◌, subst, arith}
use Rattle.std.proofs.lemmas.Option.{none-some}
use Rattle.fp_base.proofs.Options.{same_some}
use Rattle.fp_base.specs.declared.rule.Rule.{Rule}
use Rattle.fp_tree.specs.declared.member.Member.{Member}
use Rattle.fp_tree.specs.declared.source.Source.{Source}
use Rattle.fp_base.specs.Least.{IsUnbroken}
use Rattle.fp_outside.specs.Counts.{Rose, last_count}
use Rattle.fp_outside.specs.declared.files.HeldFile.{HeldFile}
use Rattle.fp_gather.proofs.Absent.{gone_not_stopped}
use Rattle.fp_main.specs.Causes.{AreTables, Asked, AsksForNoRun, DoneComes, EndsAs, IsEnd, IsThere, MakeComes, NoFileComes, NoTopologyComes, ReadFaultComes, RefusedComes, RunAsked, RunComes, ScenarioRefusedComes, Sound, SoundSink, UsageComes, WriteFaultComes}
use Rattle.fp_main.specs.Delivery.{SinkRun, Delivered}
use Rattle.fp_gather.specs.FilesRun.{FilesRun, Holds, IsHeld}
use Rattle.fp_main.specs.Output.{DueNoFile, DueNoTopology, DueReadFault, DueRefused, DueRun, DueScenarioAbsent, DueScenarioRefused, DueScenarioUnread, DueOfLoad, DueText, DueUsage, IsDue, IsDueOfFiles, IsRead, IsText, Output, Reaches, load_run, tables_of}
use Rattle.fp_main.specs.Statuses.{status_of}
use Rattle.fp_main.specs.Topologies.{HasTopology, IsTopology, LacksTopology}
use Rattle.fp_main.specs.Words.{AsksFor, IsMake, IsRun, IsWrong, NamesTopology, load_words, word_of}
use Rattle.fp_gather.specs.gathering.Gathered.{source_of}
use Rattle.fp_main.specs.Broken.{SourceBroken}
use Rattle.fp_main.specs.Lines.{no_memory_line}
use Rattle.fp_main.proofs.Loads.{asked_not_wrong, form_not_wrong}
use Rattle.fp_main.proofs.Wording.{check_names_nothing, make_asks_nothing, same_make, same_run, text_is_no_run}
use Rattle.fp_scenario_run.specs.declared.scenario.RunText.{RunText}
use Rattle.fp_scenario_run.specs.declared.scenario.RunText.TheVariants.{Log, Counts}
use Rattle.fp_model.specs.Defined.{Defined}
use Rattle.fp_events.specs.declared.event.Finish.{Finish}
use Rattle.fp_events.specs.declared.event.Finish.TheVariants as finish
use Rattle.fp_scenario_run.specs.Planned.{BreaksNoRule, BreaksRule}
use Rattle.fp_tables.specs.Lookup.{Described}
use Rattle.fp_tables.specs.declared.model.Model.{Model}
use Rattle.fp_gather.specs.gathering.Walks.{NoFile as IsMissing, NoReadFault, Outcome, Stops, Walked, WalksFiles, Went, nothing_read}
use Rattle.fp_main.specs.declared.status.Status.{Status}
use Rattle.fp_main.specs.declared.status.Status.TheVariants.{Done, Refused, Usage, ReadFault, WriteFault, NoFile, Stuck, Spent, Asserted, NoMemory, NoTopology}

-- ---- what excludes what

-- words that name a topology name one, and ask for the same files
same_topology : (words a b : List (List ℕ)) (t u : List ℕ) → NamesTopology words t a → NamesTopology words u b → (t ≡ u) × (a ≡ b)
same_topology words a b t u (inl (text, x)) (inl (other, y)) = (second (sym x.words_are ∙ y.words_are), rest (sym x.words_are ∙ y.words_are))
  where
    second : word_of text ∷ t ∷ a ≡ word_of other ∷ u ∷ b → t ≡ u
    second h = cc

    rest : word_of text ∷ t ∷ a ≡ word_of other ∷ u ∷ b → a ≡ b
    rest h = cc
same_topology words a b t u (inl (text, x)) (inr (scenario, y)) = absurd (text_is_no_run words a b text t u scenario x y)
same_topology words a b t u (inr (scenario, x)) (inl (text, y)) = absurd (text_is_no_run words b a text u t scenario y x)
same_topology words a b t u (inr (scenario, x)) (inr (other, y)) = let same = same_run words a b t u scenario other x y in (same.0, same.2)

same_names : (words a b : List (List ℕ)) → AsksFor words a → AsksFor words b → a ≡ b
same_names words a b (inl x) (inl y) = names (sym x.words_are ∙ y.words_are)
  where
    names : codes "check" ∷ a ≡ codes "check" ∷ b → a ≡ b
    names h = cc
same_names words a b (inl x) (inr y) = absurd (check_names_nothing words a b y.0 x y.1)
same_names words a b (inr x) (inl y) = absurd (check_names_nothing words b a x.0 y x.1)
same_names words a b (inr x) (inr y) = (same_topology words a b x.0 y.0 x.1 y.1).1

-- no text is due where the topology in the words isn't there
lacking_no_text : (words names asked : List (List ℕ)) (name : List ℕ) (model : Model) (text : List ℕ) → NamesTopology words name asked → LacksTopology model name → IsText words names model text → ⊥
lacking_no_text words names asked name model text named lacking (inl listed) = check_names_nothing words names asked name listed.0 named
lacking_no_text words names asked name model text named lacking (inr said) =
    let same : said.0 ≡ name = (same_topology words names asked said.0 name (inl (said.1, said.2)) named).0 in
    lacking (subst (HasTopology model) same (said.3.0, said.3.1))

-- and none where the words ask for a run
run_no_text : (words names asked : List (List ℕ)) (topology scenario : List ℕ) (model : Model) (text : List ℕ) → IsRun words topology scenario asked → IsText words names model text → ⊥
run_no_text words names asked topology scenario model text run (inl listed) = check_names_nothing words names asked topology listed.0 (inr (scenario, run))
run_no_text words names asked topology scenario model text run (inr said) = text_is_no_run words names asked said.1 said.0 topology scenario said.2 run

-- a file that is told holds one text, or isn't there
holds_once : (told : Option (List HeldFile)) (held : List HeldFile) (name : List ℕ) (x y : Option (List ℕ)) → told ≡ Some held → IsHeld told name x → IsHeld told name y → x ≡ y
holds_once None held name x y e a b = absurd (none-some held e)
holds_once (Some files) held name x y e a b = sym a ∙ b

-- a count that stayed below its last value didn't rise
stayed : (before now : ℕ) → now ≡ before → before < last_count → Rose before now → ⊥
stayed before now e below (inl rose) = omega arith
stayed before now e below (inr last) = omega (arith, last.0)

rose_not_stayed : (before now : ℕ) → before < now → now ≡ before → ⊥
rose_not_stayed before now rose e = omega arith

-- files that tell what they hold are read in one way
abbrev pub ReadOneWay : Type 0
ReadOneWay =
    (told : Option (List HeldFile)) (held : List HeldFile) (names : List (List ℕ)) (before : Walked) (one other : Outcome (List (List Member)))
    → told ≡ Some held → WalksFiles told names before one → WalksFiles told names before other → NoReadFault one → NoReadFault other → one ≡ other

-- what the words ask for ends as the files tell
module _ (one_way : ReadOneWay) (words : List (List ℕ)) (files : FilesRun) (o : Outcome (List (List Member))) (asked : Asked words files o) where
  agrees : (names : List (List ℕ)) (p : Outcome (List (List Member))) → AsksFor words names → WalksFiles files.told names nothing_read p → NoReadFault o → NoReadFault p → o ≡ p
  agrees names p asks walks =
      one_way (Some asked.held) asked.held asked.names nothing_read o p refl asked.walks
      (subst (λ (ns : List (List ℕ)). WalksFiles (Some asked.held) ns nothing_read p) (same_names words names asked.names asks asked.asked)
      (subst (λ (told : Option (List HeldFile)). WalksFiles told names nothing_read p) asked.told walks))

-- what holds of what was read and of its source
abbrev Holding : (Walked → Source → Type 0) → Outcome (List (List Member)) → Type 0
Holding P (Went walked units) = P walked (source_of walked units)
Holding P (Stops stopped) = ⊥

-- ---- what is due

-- what is to be shown of each that may be due
record Cases (told : RunText) (words : List (List ℕ)) (files : FilesRun) (output line : List ℕ) (P : Status → Type 0) : Type 0 where
  text : DueText words files output line → P Done
  run : (end : Finish) → DueRun told end words files output line → P (status_of end)
  refused : DueRefused words files output line → P Refused
  rule : DueScenarioRefused words files output line → P Refused
  lacking : DueNoTopology words files output line → P NoTopology
  usage : DueUsage words files output line → P Usage
  fault : DueReadFault words files output line → P ReadFault
  unread : DueScenarioUnread words files output line → P ReadFault
  absent : DueNoFile words files output line → P NoFile
  missed : DueScenarioAbsent words files output line → P NoFile
  memory : (output ≡ []) × (line ≡ no_memory_line) → P NoMemory

module _ (told : RunText) (words : List (List ℕ)) (files : FilesRun) (output line : List ℕ) (P : Status → Type 0) (cases : Cases told words files output line P) where
  due_cases : (due : Status) → IsDueOfFiles told words files due output line → P due
  due_cases Done (inl d) = cases.text d
  due_cases Done (inr d) = cases.run finish.Complete d
  due_cases Refused (inl d) = cases.refused d
  due_cases Refused (inr d) = cases.rule d
  due_cases Usage d = cases.usage d
  due_cases ReadFault (inl d) = cases.fault d
  due_cases ReadFault (inr d) = cases.unread d
  due_cases NoFile (inl d) = cases.absent d
  due_cases NoFile (inr d) = cases.missed d
  due_cases NoMemory d = cases.memory d
  due_cases WriteFault d = absurd d
  due_cases Stuck d = cases.run finish.Stuck d
  due_cases Spent d = cases.run finish.Spent d
  due_cases Asserted d = cases.run finish.Asserted d
  due_cases NoTopology d = cases.lacking d

-- this is due, or memory was refused
abbrev IsEither : Status → Status → Type 0
IsEither wanted due = (due ≡ wanted) ⊎ (due ≡ NoMemory)

ends_as : (wanted due : Status) (output line : List ℕ) (out diag : SinkRun) (status : Status) → Delivered due output line out diag status → IsEither wanted due → EndsAs wanted status
ends_as wanted due output line out diag status (inl whole) (inl e) = inl (whole.ends ∙ e)
ends_as wanted due output line out diag status (inl whole) (inr e) = inr (inr (whole.ends ∙ e))
ends_as wanted due output line out diag status (inr (inl failed)) e = inr (inl failed.ends)
ends_as wanted due output line out diag status (inr (inr failed)) e = inr (inl failed.ends)

-- what is written of words of a form with files, and of wrong words, and its status
record OutputOf (told : RunText) (words : List (List ℕ)) (files : FilesRun) (out diag : SinkRun) (status : Status) : Type 0 where
  due : Status
  output : List ℕ
  line : List ℕ
  called : IsDueOfFiles told words files due output line
  delivered : Delivered due output line out diag status

module _ (one_way : ReadOneWay) (told : RunText) (words : List (List ℕ)) (files : FilesRun) (out diag : SinkRun) (status : Status) (o : OutputOf told words files out diag status) where
  -- this is due in each case
  abbrev CasesOf : Status → Type 0
  CasesOf wanted = Cases told words files o.output o.line (IsEither wanted)

  ends : (wanted : Status) → CasesOf wanted → EndsAs wanted status
  ends wanted cases = ends_as wanted o.due o.output o.line out diag status o.delivered (due_cases told words files o.output o.line (IsEither wanted) cases o.due o.called)

  -- wrong words reach no run
  not_wrong : (scenario : List ℕ) (word : ℕ) → Reaches words files scenario → IsWrong words word → ⊥
  not_wrong scenario word r wrong = asked_not_wrong words r.names word (inr (r.topology, inr (scenario, r.asked))) wrong

  usage_of : UsageComes words status
  usage_of word wrong = ends Usage (record {
    text = λ d. absurd (asked_not_wrong words d.read.names word d.read.asked wrong);
    run = λ end d. absurd (not_wrong d.scenario word d.reached wrong);
    refused = λ d. absurd (asked_not_wrong words d.read.names word d.read.asked wrong);
    rule = λ d. absurd (not_wrong d.scenario word d.reached wrong);
    lacking = λ d. absurd (asked_not_wrong words d.read.names word d.read.asked wrong);
    usage = λ d. inl refl;
    fault = λ d. absurd (asked_not_wrong words d.names word d.asked wrong);
    unread = λ d. absurd (not_wrong d.scenario word d.reached wrong);
    absent = λ d. absurd (asked_not_wrong words d.names word d.asked wrong);
    missed = λ d. absurd (not_wrong d.scenario word d.reached wrong);
    memory = λ d. inr refl;
  })

  read_fault_of : ReadFaultComes files status
  read_fault_of rose = ends ReadFault (record {
    text = λ d. absurd (rose_not_stayed _ _ rose d.read.read.sound);
    run = λ end d. absurd (rose_not_stayed _ _ rose d.gives.read.sound);
    refused = λ d. absurd (rose_not_stayed _ _ rose d.read.read.sound);
    rule = λ d. absurd (rose_not_stayed _ _ rose d.says.read.sound);
    lacking = λ d. absurd (rose_not_stayed _ _ rose d.read.read.sound);
    usage = λ d. absurd (rose_not_stayed _ _ rose d.unread.0);
    fault = λ d. inl refl;
    unread = λ d. inl refl;
    absent = λ d. absurd (rose_not_stayed _ _ rose d.absent.sound);
    missed = λ d. absurd (rose_not_stayed _ _ rose d.says.sound);
    memory = λ d. inr refl;
  })

  no_file_missed : files.misses_before < files.misses_after → EndsAs NoFile status
  no_file_missed rose = ends NoFile (record {
    text = λ d. absurd (rose_not_stayed _ _ rose d.read.read.found);
    run = λ end d. absurd (rose_not_stayed _ _ rose d.gives.read.found);
    refused = λ d. absurd (rose_not_stayed _ _ rose d.read.read.found);
    rule = λ d. absurd (rose_not_stayed _ _ rose d.says.read.found);
    lacking = λ d. absurd (rose_not_stayed _ _ rose d.read.read.found);
    usage = λ d. absurd (rose_not_stayed _ _ rose d.unread.1);
    fault = λ d. absurd (rose_not_stayed _ _ rose d.unread.found);
    unread = λ d. absurd (rose_not_stayed _ _ rose d.says.found);
    absent = λ d. inl refl;
    missed = λ d. inl refl;
    memory = λ d. inr refl;
  })

  -- what was read is what the files tell
  read_as : (o : Outcome (List (List Member))) (walked : Walked) (source : Source) → Asked words files o → NoReadFault o → (read : IsRead words files walked source) → o ≡ Went walked read.read.units
  read_as o walked source asked sure read = agrees one_way words files o asked read.names (Went walked read.read.units) read.asked read.read.read sure tt

  holds_as : (P : Walked → Source → Type 0) (o : Outcome (List (List Member))) (walked : Walked) (source : Source) → Asked words files o → NoReadFault o → IsRead words files walked source → Holding P o → P walked source
  holds_as P o walked source asked sure read holds = subst (P walked) (sym read.read.made) (subst (Holding P) (read_as o walked source asked sure read) holds)

  -- also of a run that the words reach
  reached_as : (o : Outcome (List (List Member))) (scenario : List ℕ) → Asked words files o → NoReadFault o → (r : Reaches words files scenario) → o ≡ Went r.walked r.units
  reached_as o scenario asked sure r =
      agrees one_way words files o asked r.names (Went r.walked r.units) (inr (r.topology, inr (scenario, r.asked))) r.read sure tt

  reaches_as : (P : Walked → Source → Type 0) (walked : Walked) (units : List (List Member)) (scenario : List ℕ) → Asked words files (Went walked units) → (r : Reaches words files scenario)
      → P walked (source_of walked units) → P r.walked (source_of r.walked r.units)
  reaches_as P walked units scenario asked r holds = subst (Holding P) (reached_as (Went walked units) scenario asked tt r) holds

  no_file_told : (name : List ℕ) → Asked words files (Stops (IsMissing name)) → Sound files → EndsAs NoFile status
  no_file_told name asked sound = ends NoFile (record {
    text = λ d. absurd (gone_not_stopped _ _ (IsMissing name) (sym (read_as (Stops (IsMissing name)) d.walked d.source asked tt d.read)));
    run = λ end d. absurd (gone_not_stopped _ _ (IsMissing name) (sym (reached_as (Stops (IsMissing name)) d.scenario asked tt d.reached)));
    refused = λ d. absurd (gone_not_stopped _ _ (IsMissing name) (sym (read_as (Stops (IsMissing name)) d.walked d.source asked tt d.read)));
    rule = λ d. absurd (gone_not_stopped _ _ (IsMissing name) (sym (reached_as (Stops (IsMissing name)) d.scenario asked tt d.reached)));
    lacking = λ d. absurd (gone_not_stopped _ _ (IsMissing name) (sym (read_as (Stops (IsMissing name)) d.walked d.source asked tt d.read)));
    usage = λ d. absurd (asked_not_wrong words asked.names d.word asked.asked d.wrong);
    fault = λ d. absurd (stayed _ _ sound.0 sound.1 d.unread.fault);
    unread = λ d. absurd (stayed _ _ sound.0 sound.1 d.says.fault);
    absent = λ d. inl refl;
    missed = λ d. inl refl;
    memory = λ d. inr refl;
  })

  -- a file that isn't there ends the reading
  not_absent : (walked : Walked) (units : List (List Member)) (output line : List ℕ) → Asked words files (Went walked units) → DueNoFile words files output line → ⊥
  not_absent walked units output line asked d =
      gone_not_stopped walked units (IsMissing d.name) (agrees one_way words files (Went walked units) asked d.names (Stops (IsMissing d.name)) d.asked d.absent.stopped tt tt)

  refused_of : RefusedComes words files status
  refused_of walked units f asked broken sound = ends Refused (record {
    text = λ d. absurd (d.unbroken f (holds_as (λ w s. SourceBroken w s f) (Went walked units) d.walked d.source asked tt d.read broken));
    run = λ end d. absurd (whole d.scenario d.reached);
    refused = λ d. inl refl;
    rule = λ d. inl refl;
    lacking = λ d. absurd (d.unbroken f (holds_as (λ w s. SourceBroken w s f) (Went walked units) d.walked d.source asked tt d.read broken));
    usage = λ d. absurd (asked_not_wrong words asked.names d.word asked.asked d.wrong);
    fault = λ d. absurd (stayed _ _ sound.0 sound.1 d.unread.fault);
    unread = λ d. absurd (stayed _ _ sound.0 sound.1 d.says.fault);
    absent = λ d. absurd (not_absent walked units o.output o.line asked d);
    missed = λ d. absurd (whole d.scenario d.reached);
    memory = λ d. inr refl;
  })
    where
      whole : (scenario : List ℕ) → Reaches words files scenario → ⊥
      whole scenario r = r.unbroken f (reaches_as (λ w s. SourceBroken w s f) walked units scenario asked r broken)

  -- what breaks no rule isn't refused
  not_refused : (walked : Walked) (units : List (List Member)) (output line : List ℕ)
      → Asked words files (Went walked units) → IsUnbroken (SourceBroken walked (source_of walked units)) → DueRefused words files output line → ⊥
  not_refused walked units output line asked unbroken d =
      holds_as (λ w s. IsUnbroken (SourceBroken w s)) (Went walked units) d.walked d.source asked tt d.read unbroken d.says.refusal (d.says.first.holds d.says.refusal refl)

  -- and lacks no topology, where each that the words name is there
  not_lacking : (walked : Walked) (units : List (List Member)) (output line : List ℕ) → Asked words files (Went walked units) → IsThere words (source_of walked units)
      → DueNoTopology words files output line → ⊥
  not_lacking walked units output line asked there d =
      d.lacking (holds_as (λ w s. IsThere words s) (Went walked units) d.walked d.source asked tt d.read there d.topology d.read.names d.model d.named d.defined)

  no_topology_of : NoTopologyComes words files status
  no_topology_of walked units name names asked unbroken named missing sound = ends NoTopology (record {
    text =
        λ d. absurd (lacking_no_text words d.read.names names name d.model o.output named
        (holds_as (λ w s. (model : Model) → Defined s model → LacksTopology model name) (Went walked units) d.walked d.source asked tt d.read missing d.model d.defined) d.text);
    run = λ end d. absurd (none d.scenario d.reached);
    refused = λ d. absurd (not_refused walked units o.output o.line asked unbroken d);
    rule = λ d. absurd (none d.scenario d.reached);
    lacking = λ d. inl refl;
    usage = λ d. absurd (asked_not_wrong words asked.names d.word asked.asked d.wrong);
    fault = λ d. absurd (stayed _ _ sound.0 sound.1 d.unread.fault);
    unread = λ d. absurd (none d.scenario d.reached);
    absent = λ d. absurd (not_absent walked units o.output o.line asked d);
    missed = λ d. absurd (none d.scenario d.reached);
    memory = λ d. inr refl;
  })
    where
      none : (scenario : List ℕ) → Reaches words files scenario → ⊥
      none scenario r =
          let same : r.topology ≡ name = (same_topology words r.names names r.topology name (inr (scenario, r.asked)) named).0 in
          let lacks = reaches_as (λ w s. (model : Model) → Defined s model → LacksTopology model name) walked units scenario asked r missing in
          lacks r.model r.defined (subst (HasTopology r.model) same (r.at, r.there))

  done_ends : (walked : Walked) (units : List (List Member)) → Asked words files (Went walked units) → AsksForNoRun words → IsUnbroken (SourceBroken walked (source_of walked units))
      → IsThere words (source_of walked units) → Sound files → EndsAs Done status
  done_ends walked units asked no_run unbroken there sound = ends Done (record {
    text = λ d. inl refl;
    run = λ end d. absurd (no_run d.reached.topology d.scenario d.reached.names d.reached.asked);
    refused = λ d. absurd (not_refused walked units o.output o.line asked unbroken d);
    rule = λ d. absurd (no_run d.reached.topology d.scenario d.reached.names d.reached.asked);
    lacking = λ d. absurd (not_lacking walked units o.output o.line asked there d);
    usage = λ d. absurd (asked_not_wrong words asked.names d.word asked.asked d.wrong);
    fault = λ d. absurd (stayed _ _ sound.0 sound.1 d.unread.fault);
    unread = λ d. absurd (no_run d.reached.topology d.scenario d.reached.names d.reached.asked);
    absent = λ d. absurd (not_absent walked units o.output o.line asked d);
    missed = λ d. absurd (no_run d.reached.topology d.scenario d.reached.names d.reached.asked);
    memory = λ d. inr refl;
  })

  -- ---- runs that the words ask for, by what the files tell

  module _ (scenario : List ℕ) (asked : RunAsked words files scenario) (sound : Sound files) where
    same_scenario : (other : List ℕ) → Reaches words files other → other ≡ scenario
    same_scenario other r = (same_run words r.names asked.names r.topology asked.topology other scenario r.asked asked.run).1

    -- the scenario's file holds this, or nothing
    holds_as_told : (other : List ℕ) (x y : Option (List ℕ)) → Reaches words files other → Holds files other x → Holds files scenario y → x ≡ y
    holds_as_told other x y r here there =
        holds_once files.told asked.asked.held scenario x y asked.asked.told (subst (λ (n : List ℕ). IsHeld files.told n x) (same_scenario other r) here) there

    -- what is reached are tables of the source
    tables_as : (other : List ℕ) (r : Reaches words files other) → AreTables (source_of asked.walked asked.units) asked.topology (tables_of r.model r.at)
    tables_as other r = (
      back (reached_as (Went asked.walked asked.units) other asked.asked tt r),
      subst (λ (name : List ℕ). IsTopology r.model name r.at) (same_run words r.names asked.names r.topology asked.topology other scenario r.asked asked.run).0 r.there,
    )
      where
        back : Went asked.walked asked.units ≡ Went r.walked r.units → Defined (source_of asked.walked asked.units) r.model
        back e = subst (Holding (λ w s. Defined s r.model)) (sym e) r.defined

    module _ (P : Status → Type 0) where
      -- what is left to be shown where a run is asked for
      run_cases : ((end : Finish) → DueRun told end words files o.output o.line → P (status_of end)) → (DueScenarioRefused words files o.output o.line → P Refused)
          → (DueScenarioAbsent words files o.output o.line → P NoFile) → P NoMemory → Cases told words files o.output o.line P
      run_cases run rule missed memory = record {
        text = λ d. absurd (run_no_text words d.read.names asked.names asked.topology scenario d.model o.output asked.run d.text);
        run = run;
        refused = λ d. absurd (not_refused asked.walked asked.units o.output o.line asked.asked asked.unbroken d);
        rule = rule;
        lacking = λ d. absurd (not_lacking asked.walked asked.units o.output o.line asked.asked asked.there d);
        usage = λ d. absurd (asked_not_wrong words asked.asked.names d.word asked.asked.asked d.wrong);
        fault = λ d. absurd (stayed _ _ sound.0 sound.1 d.unread.fault);
        unread = λ d. absurd (stayed _ _ sound.0 sound.1 d.says.fault);
        absent = λ d. absurd (not_absent asked.walked asked.units o.output o.line asked.asked d);
        missed = missed;
        memory = λ d. memory;
      }

    no_scenario : Holds files scenario None → EndsAs NoFile status
    no_scenario gone =
        ends NoFile (run_cases (IsEither NoFile) (λ end d. absurd (none-some d.gives.text (sym (holds_as_told d.scenario (Some d.gives.text) None d.reached d.gives.read.held gone))))
        (λ d. absurd (none-some d.says.text (sym (holds_as_told d.scenario (Some d.says.text) None d.reached d.says.read.held gone)))) (λ d. inl refl) (inr refl))

    module _ (text : List ℕ) (held : Holds files scenario (Some text)) where
      -- it is there
      not_missed : DueScenarioAbsent words files o.output o.line → ⊥
      not_missed d = none-some text (holds_as_told d.scenario None (Some text) d.reached d.says.absent held)

      scenario_ends : ((t : Described) → AreTables (source_of asked.walked asked.units) asked.topology t → (rule : Rule) × (path : List ℕ) × BreaksRule t text rule path) → EndsAs Refused status
      scenario_ends breaks = ends Refused (run_cases (IsEither Refused) (λ end d. absurd (broken end d)) (λ d. inl refl) (λ d. absurd (not_missed d)) (inr refl))
        where
          broken : (end : Finish) → DueRun told end words files o.output o.line → ⊥
          broken end d =
              let same : d.gives.text ≡ text = same_some (holds_as_told d.scenario (Some d.gives.text) (Some text) d.reached d.gives.read.held held) in
              let b = breaks (tables_of d.reached.model d.reached.at) (tables_as d.scenario d.reached) in
              d.gives.whole b.0 b.1 (subst (λ (x : List ℕ). BreaksRule (tables_of d.reached.model d.reached.at) x b.0 b.1) (sym same) b.2)

      -- one of the ends of runs is due, or memory was refused
      run_due : ((t : Described) → AreTables (source_of asked.walked asked.units) asked.topology t → BreaksNoRule t text) → IsEnd o.due ⊎ (o.due ≡ NoMemory)
      run_due whole =
          due_cases told words files o.output o.line (λ s. IsEnd s ⊎ (s ≡ NoMemory))
          (run_cases (λ s. IsEnd s ⊎ (s ≡ NoMemory)) (λ end d. inl (is_end end)) (λ d. absurd (unbroken d)) (λ d. absurd (not_missed d)) (inr refl)) o.due o.called
        where
          is_end : (end : Finish) → IsEnd (status_of end)
          is_end finish.Complete = inl refl
          is_end finish.Stuck = inr (inl refl)
          is_end finish.Spent = inr (inr (inl refl))
          is_end finish.Asserted = inr (inr (inr refl))

          unbroken : DueScenarioRefused words files o.output o.line → ⊥
          unbroken d =
              let same : d.says.text ≡ text = same_some (holds_as_told d.scenario (Some d.says.text) (Some text) d.reached d.says.read.held held) in
              whole (tables_of d.reached.model d.reached.at) (tables_as d.scenario d.reached) d.says.rule d.says.path
              (subst (λ (x : List ℕ). BreaksRule (tables_of d.reached.model d.reached.at) x d.says.rule d.says.path) same d.says.broken)

  scenario_refused_of : ScenarioRefusedComes words files status
  scenario_refused_of scenario text asked held breaks sound = scenario_ends scenario asked sound text held breaks

  -- where no write failed the status is no write fault
  no_fault : SoundSink out → SoundSink diag → Delivered o.due o.output o.line out diag status → status ≡ o.due
  no_fault a b (inl whole) = whole.ends
  no_fault a b (inr (inl failed)) = absurd (stayed _ _ a.0 a.1 failed.fault)
  no_fault a b (inr (inr failed)) = absurd (stayed _ _ b.0 b.1 failed.fault)

  not_due : IsDueOfFiles told words files WriteFault o.output o.line → ⊥
  not_due d = d

  done_of : DoneComes words files out diag status
  done_of walked units asked no_run unbroken there sound out_sound diag_sound =
      elim (done_ends walked units asked no_run unbroken there sound) [
        | inl e ↦ inl e
        | inr f ↦ without f
      ]
    where
      without : (status ≡ WriteFault) ⊎ (status ≡ NoMemory) → (status ≡ Done) ⊎ (status ≡ NoMemory)
      without (inl e) = absurd (not_due (subst (λ (s : Status). IsDueOfFiles told words files s o.output o.line) (sym (no_fault out_sound diag_sound o.delivered) ∙ e) o.called))
      without (inr e) = inr e

  run_of : RunComes words files out diag status
  run_of scenario text asked held whole sound out_sound diag_sound =
      subst (λ (s : Status). IsEnd s ⊎ (s ≡ NoMemory)) (sym (no_fault out_sound diag_sound o.delivered)) (run_due scenario asked sound text held whole)

-- ---- what is written of words and files

module _ (one_way : ReadOneWay) (words : List (List ℕ)) (files : FilesRun) (out diag : SinkRun) (status : Status) (o : Output words files out diag status) where
  -- where it isn't due of the load
  over : (DueOfLoad words files o.due o.output o.line → ⊥) → OutputOf Log words files out diag status
  over other = go o.called
    where
      go : IsDue words files o.due o.output o.line → OutputOf Log words files out diag status
      go (inl d) = record { due = o.due; output = o.output; line = o.line; called = d; delivered = o.delivered }
      go (inr load) = absurd (other load)

  over_files : (names : List (List ℕ)) → AsksFor words names → OutputOf Log words files out diag status
  over_files names asked = over (λ load. make_asks_nothing words names load.instances load.asked asked)

  pub usage_comes : UsageComes words status
  usage_comes word wrong = usage_of one_way Log words files out diag status (over (λ load. form_not_wrong words word (inr (load.instances, load.asked)) wrong)) word wrong

  pub read_fault_comes : ReadFaultComes files status
  read_fault_comes rose = read_fault_of one_way Log words files out diag status (over (λ load. rose_not_stayed _ _ rose load.unread.0)) rose

  pub no_file_comes : NoFileComes words files status
  no_file_comes = (
    λ rose. no_file_missed one_way Log words files out diag status (over (λ load. rose_not_stayed _ _ rose load.unread.1)) rose,
    λ name asked sound. no_file_told one_way Log words files out diag status (over_files asked.names asked.asked) name asked sound,
    λ scenario asked gone sound. no_scenario one_way Log words files out diag status (over_files asked.asked.names asked.asked.asked) scenario asked sound gone,
  )

  pub refused_comes : RefusedComes words files status
  refused_comes walked units f asked broken sound = refused_of one_way Log words files out diag status (over_files asked.names asked.asked) walked units f asked broken sound

  pub no_topology_comes : NoTopologyComes words files status
  no_topology_comes walked units name names asked unbroken named missing sound =
      no_topology_of one_way Log words files out diag status (over_files asked.names asked.asked) walked units name names asked unbroken named missing sound

  pub scenario_refused_comes : ScenarioRefusedComes words files status
  scenario_refused_comes scenario text asked held breaks sound =
      scenario_refused_of one_way Log words files out diag status (over_files asked.asked.names asked.asked.asked) scenario text asked held breaks sound

  pub done_comes : DoneComes words files out diag status
  done_comes walked units asked no_run unbroken there sound out_sound diag_sound =
      done_of one_way Log words files out diag status (over_files asked.names asked.asked) walked units asked no_run unbroken there sound out_sound diag_sound

  pub run_comes : RunComes words files out diag status
  run_comes scenario text asked held whole sound out_sound diag_sound =
      run_of one_way Log words files out diag status (over_files asked.asked.names asked.asked.asked) scenario text asked held whole sound out_sound diag_sound

  write_fault_of : Delivered o.due o.output o.line out diag status → (out.faults_before < out.faults_after) ⊎ (diag.faults_before < diag.faults_after) → status ≡ WriteFault
  write_fault_of (inl whole) (inl rose) = absurd (rose_not_stayed _ _ rose whole.out_sound)
  write_fault_of (inl whole) (inr rose) = absurd (rose_not_stayed _ _ rose whole.diag_sound)
  write_fault_of (inr (inl failed)) rose = failed.ends
  write_fault_of (inr (inr failed)) rose = failed.ends

  pub write_fault_comes : WriteFaultComes out diag status
  write_fault_comes rose = write_fault_of o.delivered rose

  -- words that ask for the load have nothing due of files, but that memory was refused
  module _ (instances : ℕ) (asked : IsMake words instances) where
    abbrev OfLoad : Status → Type 0
    OfLoad s = IsDueOfFiles (Counts instances) load_words (load_run instances) s o.output o.line

    nothing_asked : (names : List (List ℕ)) → AsksFor words names → ⊥
    nothing_asked names files_asked = make_asks_nothing words names instances asked files_asked

    nothing_reached : (scenario : List ℕ) → Reaches words files scenario → ⊥
    nothing_reached scenario r = nothing_asked r.names (inr (r.topology, inr (scenario, r.asked)))

    memory_alone : Cases Log words files o.output o.line OfLoad
    memory_alone = record {
      text = λ d. absurd (nothing_asked d.read.names d.read.asked);
      run = λ end d. absurd (nothing_reached d.scenario d.reached);
      refused = λ d. absurd (nothing_asked d.read.names d.read.asked);
      rule = λ d. absurd (nothing_reached d.scenario d.reached);
      lacking = λ d. absurd (nothing_asked d.read.names d.read.asked);
      usage = λ d. absurd (form_not_wrong words d.word (inr (instances, asked)) d.wrong);
      fault = λ d. absurd (nothing_asked d.names d.asked);
      unread = λ d. absurd (nothing_reached d.scenario d.reached);
      absent = λ d. absurd (nothing_asked d.names d.asked);
      missed = λ d. absurd (nothing_reached d.scenario d.reached);
      memory = λ d. d;
    }

    over_load : OutputOf (Counts instances) load_words (load_run instances) out diag status
    over_load = record { due = o.due; output = o.output; line = o.line; called = go o.called; delivered = o.delivered }
      where
        go : IsDue words files o.due o.output o.line → OfLoad o.due
        go (inl d) = due_cases Log words files o.output o.line OfLoad memory_alone o.due d
        go (inr load) =
            subst (λ (n : ℕ). IsDueOfFiles (Counts n) load_words (load_run n) o.due o.output o.line) (same_make words load.instances instances load.asked asked) load.due

  pub make_comes : MakeComes words out diag status
  make_comes instances asked = record {
    refused = refused_of one_way (Counts instances) load_words (load_run instances) out diag status (over_load instances asked);
    no_topology = no_topology_of one_way (Counts instances) load_words (load_run instances) out diag status (over_load instances asked);
    scenario_refused = scenario_refused_of one_way (Counts instances) load_words (load_run instances) out diag status (over_load instances asked);
    run = run_of one_way (Counts instances) load_words (load_run instances) out diag status (over_load instances asked);
  }
