-- What is told of a run: its log, or how much went through its queues. FPP has no standard for scenarios. This profile:
use Rattle.std.specs.Prelude.{◌≡◌, ℕ, Bool, true, false, List, ◌++◌, count_by, codes, decimal}
use Rattle.std.specs.List.Sorted.{IsSortedBy}
use Rattle.fp_tables.specs.Lookup.{Described}
use Rattle.fp_tables.specs.declared.program.Program.{Program}
use Rattle.fp_events.specs.declared.event.Entry.{Entry}
use Rattle.fp_events.specs.declared.event.Finish.{Finish}
use Rattle.fp_events.specs.declared.event.What.{What}
use Rattle.fp_events.specs.declared.event.What.TheVariants as what
use Rattle.fp_events.specs.Ends.{EndsAs}
use Rattle.fp_events.specs.Run.{entry_lt}
use Rattle.fp_logtext.specs.Log.{Log, finish_text}
use Rattle.fp_scenario_run.specs.Planned.{IsProgramOf}
use Rattle.fp_scenario_run.specs.declared.scenario.RunText.{RunText}
use Rattle.fp_scenario_run.specs.declared.scenario.RunText.TheVariants.{Log as Logged, Counts}

abbrev pub is_put : What → Bool
is_put (what.Put number arrival) = true
is_put _ = false

abbrev pub is_take : What → Bool
is_take (what.Take number point values) = true
is_take _ = false

-- how many entries are of a kind
abbrev pub count_of : (What → Bool) → List Entry → ℕ
count_of kind entries = count_by (λ (e : Entry). kind e.what) entries

-- of a load with so many instances: what was put into queues and taken out of them, and the last line of the log
abbrev pub counts_text : ℕ → List Entry → Finish → List ℕ
counts_text instances entries finish =
    codes "make " ++ decimal instances ++ codes "\nputs " ++ decimal (count_of is_put entries) ++ codes "\ntakes " ++ decimal (count_of is_take entries) ++ codes "\n"
    ++ finish_text finish

abbrev pub text_of : RunText → Described → Program → List Entry → Finish → List ℕ
text_of Logged t program entries finish = Log t program entries finish
text_of (Counts instances) t program entries finish = counts_text instances entries finish

module _ (t : Described) (wanted : RunText) where
  -- the text tells of a run by stamp and then actor: of entries that are steps one after the other from the opening, and then of how they end,
  -- where no actor can go on (`EndsAs` says that the entries are such a run, and that its end is this one)
  abbrev pub IsToldOf : Program → List ℕ → Finish → Type 0
  IsToldOf program text finish = (entries : List Entry) × IsSortedBy entry_lt entries × EndsAs t program entries finish × (text ≡ text_of wanted t program entries finish)

  -- the text of a scenario stands for a program, and the text tells of a run by it
  abbrev pub IsToldBy : List ℕ → List ℕ → Finish → Type 0
  IsToldBy scenario text finish = (program : Program) × IsProgramOf t scenario program × IsToldOf program text finish
