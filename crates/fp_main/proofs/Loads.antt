-- What the words and the files of the load can't come to.
use Rattle.std.proofs.Common.{◌≡◌, ◌⊎◌, ◌<◌, ℕ, List, [], ◌∷◌, codes, inl, inr, lit<, refl, arith, subst, sym, drop, take-append-drop}
use Rattle.fp_outside.specs.Counts.{Rose, last_count}
use Rattle.fp_gather.specs.FilesRun.{FilesRun}
use Rattle.fp_main.specs.Output.{IsDueOfFiles, load_run}
use Rattle.fp_main.specs.Words.{AsksFor, IsForm, IsRun, IsWrong, load_words}
use Rattle.fp_main.specs.declared.status.Status.TheVariants.{NoFile, ReadFault}
use Rattle.fp_scenario_run.specs.declared.scenario.RunText.TheVariants.{Counts}

-- words that ask for files are not wrong
pub form_not_wrong : (words : List (List ℕ)) (word : ℕ) → IsForm words → IsWrong words word → ⊥
form_not_wrong words word form wrong =
    elim wrong.ends [
      | inl e ↦ e.1 (drop word words, subst IsForm (sym (take-append-drop word words)) form)
      | inr e ↦ e.1 form
    ]

pub asked_not_wrong : (words names : List (List ℕ)) (word : ℕ) → AsksFor words names → IsWrong words word → ⊥
asked_not_wrong words names word asked wrong = form_not_wrong words word (inl (names, asked)) wrong

load_run_asked : IsRun load_words (codes "Gen.T") (codes "make.json") (codes "make.fpp" ∷ [])
load_run_asked = record { words_are = refl; some = lit< tt }

pub load_is_right : (word : ℕ) → IsWrong load_words word → ⊥
load_is_right word wrong = asked_not_wrong load_words (codes "make.fpp" ∷ []) word (inr (codes "Gen.T", inr (codes "make.json", load_run_asked))) wrong

-- a count that stands at 0 didn't rise
none_rose : Rose 0 0 → ⊥
none_rose (inl rose) = omega (arith, rose)
none_rose (inr last) = omega (arith, last.0)

pub load_reads_all : (instances : ℕ) (output line : List ℕ)
    → IsDueOfFiles (Counts instances) load_words (load_run instances) ReadFault output line ⊎ IsDueOfFiles (Counts instances) load_words (load_run instances) NoFile output line → ⊥
load_reads_all instances output line (inl (inl d)) = none_rose d.unread.fault
load_reads_all instances output line (inl (inr d)) = none_rose d.says.fault
load_reads_all instances output line (inr (inl d)) = none_rose d.absent.missed
load_reads_all instances output line (inr (inr d)) = none_rose d.says.missed
