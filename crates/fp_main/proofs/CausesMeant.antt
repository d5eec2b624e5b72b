-- What stands written at each status, from what a call writes.
use Rattle.std.proofs.Common.{◌≡◌, ◌⊎◌, ℕ, List, [], None, length, inl, inr, sym, ◌∙◌, ap, subst, arith}
use Rattle.fp_main.specs.Causes.{UsageMeans, ReadFaultMeans, NoFileMeans, RefusedMeans, NoTopologyMeans, DoneMeans, StuckMeans, SpentMeans, AssertedMeans, WriteFaultMeans, NoMemoryMeans, OrOfLoad, SaidNoTopology, Says, SourceRefused, ScenarioRefused, WroteRun, WroteText}
use Rattle.fp_main.specs.Delivery.{SinkRun, Adds, IsWhole, OutFailed, DiagFailed, Delivered}
use Rattle.fp_gather.specs.FilesRun.{FilesRun, HadFault, HadMiss, Holds, NoFault, NoMiss}
use Rattle.fp_gather.specs.gathering.Gathered.{IsAbsent, IsUnread}
use Rattle.fp_events.specs.declared.event.Finish.{Finish}
use Rattle.fp_events.specs.declared.event.Finish.TheVariants as finish
use Rattle.fp_events.specs.declared.event.Finish.TheVariants.{Complete}
use Rattle.fp_main.specs.Lines.{no_file_line, no_memory_line, read_fault_line, usage_line}
use Rattle.fp_main.specs.Words.{AsksFor, IsMake, IsWrong, load_words}
use Rattle.fp_main.specs.Output.{DueNoFile, DueOfLoad, DueReadFault, DueRun, IsDue, IsDueOfFiles, Output, Reaches, load_run}
use Rattle.fp_gather.proofs.Absent.{missing}
use Rattle.fp_main.proofs.Loads.{load_is_right, load_reads_all}
use Rattle.fp_scenario_run.specs.declared.scenario.RunText.{RunText}
use Rattle.fp_scenario_run.specs.declared.scenario.RunText.TheVariants.{Log, Counts}
use Rattle.fp_main.specs.declared.status.Status.{Status}
use Rattle.fp_main.specs.declared.status.Status.TheVariants.{Done, Refused, Usage, ReadFault, WriteFault, NoFile, Stuck, Spent, Asserted, NoMemory, NoTopology}

-- no output is due but a text that was asked for, or what is told of a run
silent_of : (told : RunText) (words : List (List ℕ)) (files : FilesRun) (due : Status) (output line : List ℕ) → IsDueOfFiles told words files due output line → (line ≡ []) ⊎ (output ≡ [])
silent_of told words files Done output line (inl d) = inl d.silent
silent_of told words files Done output line (inr d) = inl d.gives.silent
silent_of told words files Refused output line (inl d) = inr d.says.silent
silent_of told words files Refused output line (inr d) = inr d.says.silent
silent_of told words files Usage output line d = inr d.silent
silent_of told words files ReadFault output line (inl d) = inr d.silent
silent_of told words files ReadFault output line (inr d) = inr d.says.silent
silent_of told words files NoFile output line (inl d) = inr d.silent
silent_of told words files NoFile output line (inr d) = inr d.says.silent
silent_of told words files NoMemory output line d = inr d.0
silent_of told words files WriteFault output line d = absurd d
silent_of told words files Stuck output line d = inl d.gives.silent
silent_of told words files Spent output line d = inl d.gives.silent
silent_of told words files Asserted output line d = inl d.gives.silent
silent_of told words files NoTopology output line d = inr d.silent

silent_due : (words : List (List ℕ)) (files : FilesRun) (due : Status) (output line : List ℕ) → IsDue words files due output line → (line ≡ []) ⊎ (output ≡ [])
silent_due words files due output line (inl d) = silent_of Log words files due output line d
silent_due words files due output line (inr load) = silent_of (Counts load.instances) load_words (load_run load.instances) due output line load.due

-- a write fault is never due
no_due : (words : List (List ℕ)) (files : FilesRun) (output line : List ℕ) → IsDue words files WriteFault output line → ⊥
no_due words files output line (inl d) = d
no_due words files output line (inr load) = load.due

-- what was due is whole, where the status is another than a write fault
whole_of : (due : Status) (output line : List ℕ) (out diag : SinkRun) (status : Status)
    → Delivered due output line out diag status → (status ≡ WriteFault → ⊥) → IsWhole due output line out diag status
whole_of due output line out diag status (inl whole) other = whole
whole_of due output line out diag status (inr (inl failed)) other = absurd (other failed.ends)
whole_of due output line out diag status (inr (inr failed)) other = absurd (other failed.ends)

adds_as : (bytes other : List ℕ) (run : SinkRun) → Adds bytes run → bytes ≡ other → Adds other run
adds_as bytes other run adds e = subst (λ (b : List ℕ). Adds b run) e adds

due_as : (words : List (List ℕ)) (files : FilesRun) (due status : Status) (output line : List ℕ) → IsDue words files due output line → status ≡ due → IsDue words files status output line
due_as words files due status output line d e = subst (λ (s : Status). IsDue words files s output line) (sym e) d

-- ---- of what is due and written whole

module _ (output line : List ℕ) (out diag : SinkRun) (written : Adds output out) (said : Adds line diag) where
  says : (other : List ℕ) → output ≡ [] → line ≡ other → Says other out diag
  says other silent is = (adds_as output [] out written silent, adds_as line other diag said is)

  module _ (told : RunText) (words : List (List ℕ)) (files : FilesRun) where
    wrote_run : (end : Finish) → DueRun told end words files output line → WroteRun end told words files out × Adds [] diag
    wrote_run end d = ((d.scenario, d.gives.text, d.reached, d.gives.read, (output, d.gives.tells, written)), adds_as line [] diag said d.gives.silent)

    wrote_done : IsDueOfFiles told words files Done output line → (WroteText words files out ⊎ WroteRun Complete told words files out) × Adds [] diag
    wrote_done (inl d) = (inl (d.walked, d.source, d.read, d.unbroken, (d.model, d.defined, (output, d.text, written))), adds_as line [] diag said d.silent)
    wrote_done (inr d) = let w = wrote_run Complete d in (inr w.0, w.1)

    said_refused : IsDueOfFiles told words files Refused output line → SourceRefused words files out diag ⊎ ScenarioRefused words files out diag
    said_refused (inl d) = inl (d.walked, d.source, d.says.refusal, d.read, d.says.first, d.among, says _ d.says.silent d.says.said)
    said_refused (inr d) = inr (d.scenario, d.says.text, d.reached, d.says.read, (d.says.rule, d.says.path, d.says.broken, says _ d.says.silent d.says.said))

    said_no_topology : IsDueOfFiles told words files NoTopology output line → SaidNoTopology words files out diag
    said_no_topology d = (d.walked, d.source, d.read, d.topology, d.named, d.unbroken, (d.model, d.defined, d.lacking), says _ d.silent d.said)

-- by the words themselves, or by those of the load
module _ (words : List (List ℕ)) (files : FilesRun) (due : Status) (output line : List ℕ) where
  either_way : (P : RunText → List (List ℕ) → FilesRun → Type 0) → ((told : RunText) (ws : List (List ℕ)) (fs : FilesRun) → IsDueOfFiles told ws fs due output line → P told ws fs)
      → IsDue words files due output line → OrOfLoad P words files
  either_way P holds (inl d) = inl (holds Log words files d)
  either_way P holds (inr load) = inr (load.instances, load.asked, holds (Counts load.instances) load_words (load_run load.instances) load.due)

  -- and with something more
  with_silence : (P : RunText → List (List ℕ) → FilesRun → Type 0) (Q : Type 0) → ((told : RunText) (ws : List (List ℕ)) (fs : FilesRun) → IsDueOfFiles told ws fs due output line → P told ws fs × Q)
      → IsDue words files due output line → OrOfLoad P words files × Q
  with_silence P Q holds (inl d) = let h = holds Log words files d in (inl h.0, h.1)
  with_silence P Q holds (inr load) =
      let h = holds (Counts load.instances) load_words (load_run load.instances) load.due in
      (inr (load.instances, load.asked, h.0), h.1)

module _ (words : List (List ℕ)) (files : FilesRun) (out diag : SinkRun) (status : Status) (o : Output words files out diag status) where
  called_as : (wanted : Status) → (wanted ≡ WriteFault → ⊥) → status ≡ wanted → IsDue words files wanted o.output o.line × IsWhole o.due o.output o.line out diag status
  called_as wanted other e =
      let whole = whole_of o.due o.output o.line out diag status o.delivered (λ f. other (sym e ∙ f)) in
      (due_as words files o.due wanted o.output o.line o.called (sym e ∙ whole.ends), whole)

  -- what is due, written whole
  abbrev Whole : Type 0
  Whole = IsWhole o.due o.output o.line out diag status

  pub usage_means : UsageMeans words files out diag status
  usage_means e = let c = called_as Usage (λ f. cc) e in either c.0 c.1
    where
      either : IsDue words files Usage o.output o.line → Whole → (word : ℕ) × IsWrong words word × NoFault files × NoMiss files × Says (usage_line word) out diag
      either (inl d) whole = (d.word, d.wrong, d.unread.0, d.unread.1, says o.output o.line out diag whole.written whole.said (usage_line d.word) d.silent d.said)
      either (inr load) whole = absurd (load_is_right load.due.word load.due.wrong)

  pub read_fault_means : ReadFaultMeans words files out diag status
  read_fault_means e = let c = called_as ReadFault (λ f. cc) e in either c.0 c.1
    where
      either : IsDue words files ReadFault o.output o.line → Whole
          → (name : List ℕ) × (((names : List (List ℕ)) × AsksFor words names × IsUnread names files name) ⊎ (Reaches words files name × HadFault files × NoMiss files))
          × Says (read_fault_line name) out diag
      either (inl (inl d)) whole = (d.name, inl (d.names, d.asked, d.unread), says o.output o.line out diag whole.written whole.said (read_fault_line d.name) d.silent d.said)
      either (inl (inr d)) whole = (d.scenario, inr (d.reached, d.says.fault, d.says.found), says o.output o.line out diag whole.written whole.said (read_fault_line d.scenario) d.says.silent d.says.said)
      either (inr load) whole = absurd (load_reads_all load.instances o.output o.line (inl load.due))

  pub no_file_means : NoFileMeans words files out diag status
  no_file_means e = let c = called_as NoFile (λ f. cc) e in either c.0 c.1
    where
      either : IsDue words files NoFile o.output o.line → Whole
          → (name : List ℕ) × (((names : List (List ℕ)) × AsksFor words names × IsAbsent names files name) ⊎ (Reaches words files name × NoFault files × HadMiss files))
          × Holds files name None × Says (no_file_line name) out diag
      either (inl (inl d)) whole = (d.name, inl (d.names, d.asked, d.absent), missing files.told d.names d.name d.absent.stopped, says o.output o.line out diag whole.written whole.said (no_file_line d.name) d.silent d.said)
      either (inl (inr d)) whole = (d.scenario, inr (d.reached, d.says.sound, d.says.missed), d.says.absent, says o.output o.line out diag whole.written whole.said (no_file_line d.scenario) d.says.silent d.says.said)
      either (inr load) whole = absurd (load_reads_all load.instances o.output o.line (inr load.due))

  pub refused_means : RefusedMeans words files out diag status
  refused_means e =
      let c = called_as Refused (λ f. cc) e in
      either_way words files Refused o.output o.line (λ told ws fs. SourceRefused ws fs out diag ⊎ ScenarioRefused ws fs out diag)
      (said_refused o.output o.line out diag c.1.written c.1.said) c.0

  pub done_means : DoneMeans words files out diag status
  done_means e =
      let c = called_as Done (λ f. cc) e in
      with_silence words files Done o.output o.line (λ told ws fs. WroteText ws fs out ⊎ WroteRun Complete told ws fs out) (Adds [] diag)
      (wrote_done o.output o.line out diag c.1.written c.1.said) c.0

  -- of a run with this end
  wrote_so : (end : Finish) (wanted : Status) → ((told : RunText) (ws : List (List ℕ)) (fs : FilesRun) → IsDueOfFiles told ws fs wanted o.output o.line → DueRun told end ws fs o.output o.line)
      → (wanted ≡ WriteFault → ⊥) → status ≡ wanted → OrOfLoad (λ told ws fs. WroteRun end told ws fs out) words files × Adds [] diag
  wrote_so end wanted runs other e =
      let c = called_as wanted other e in
      with_silence words files wanted o.output o.line (λ told ws fs. WroteRun end told ws fs out) (Adds [] diag)
      (λ told ws fs d. wrote_run o.output o.line out diag c.1.written c.1.said told ws fs end (runs told ws fs d)) c.0

  pub stuck_means : StuckMeans words files out diag status
  stuck_means e = wrote_so finish.Stuck Stuck (λ told ws fs d. d) (λ f. cc) e

  pub spent_means : SpentMeans words files out diag status
  spent_means e = wrote_so finish.Spent Spent (λ told ws fs d. d) (λ f. cc) e

  pub asserted_means : AssertedMeans words files out diag status
  asserted_means e = wrote_so finish.Asserted Asserted (λ told ws fs d. d) (λ f. cc) e

  pub no_topology_means : NoTopologyMeans words files out diag status
  no_topology_means e =
      let c = called_as NoTopology (λ f. cc) e in
      either_way words files NoTopology o.output o.line (λ told ws fs. SaidNoTopology ws fs out diag) (said_no_topology o.output o.line out diag c.1.written c.1.said) c.0

  pub no_memory_means : NoMemoryMeans out diag status
  no_memory_means e = let c = called_as NoMemory (λ f. cc) e in either c.0 c.1
    where
      either : IsDue words files NoMemory o.output o.line → Whole → Says no_memory_line out diag
      either (inl d) whole = says o.output o.line out diag whole.written whole.said no_memory_line d.0 d.1
      either (inr load) whole = says o.output o.line out diag whole.written whole.said no_memory_line load.due.0 load.due.1

  -- where diag failed alone, a line was due, and so no output
  diag_alone : (output line : List ℕ) → (line ≡ []) ⊎ (output ≡ []) → DiagFailed output line out diag status → Adds [] out
  diag_alone output line (inl none) failed = absurd (omega (arith, failed.said.1, ap length none))
  diag_alone output line (inr none) failed = adds_as _ _ out failed.written none

  failed_ways : Delivered o.due o.output o.line out diag status → status ≡ WriteFault → OutFailed o.output out diag status ⊎ (DiagFailed o.output o.line out diag status × Adds [] out)
  failed_ways (inl whole) e = absurd (no_due words files o.output o.line (due_as words files o.due WriteFault o.output o.line o.called (sym e ∙ whole.ends)))
  failed_ways (inr (inl failed)) e = inl failed
  failed_ways (inr (inr failed)) e = inr (failed, diag_alone o.output o.line (silent_due words files o.due o.output o.line o.called) failed)

  pub write_fault_means : WriteFaultMeans words files out diag status
  write_fault_means e = (o.due, o.output, o.line, o.called, failed_ways o.delivered e)
