use Rattle.fp_events.specs.declared.event.Entry.{Entry}
use Rattle.fp_logtext.specs.Named.{entry_is_named, sets_or_saves}
use Rattle.fp_logtext.specs.Fitting.{notes_fit, saves_alone, values_fit}
use Rattle.fp_logtext.proofs.Runs.{entry_named, entry_values, run_shows, all_pass}
use Rattle.fp_logtext.proofs.Numbers.{run_numbers}
use Rattle.fp_logtext.proofs.laws.fitting_runs.Goals as goal

pub returns-clause-fitting : goal.returns-clause-fitting
returns-clause-fitting c = λ t program sound good es h. record {
  named = all_pass t program sound good (entry_is_named t program) es h.0 h.1 (λ before e fit shows. entry_named t program sound good e fit);
  commands = all_pass t program sound good (λ (e : Entry). sets_or_saves t.model e.instance e.what) es h.0 h.1 (λ before e fit shows. shows.commands);
  alone = all_pass t program sound good (λ (e : Entry). saves_alone e.what) es h.0 h.1 (λ before e fit shows. shows.alone);
  numbers = run_numbers t program good es h.0 h.1;
  notes = all_pass t program sound good (λ (e : Entry). notes_fit t.model e.what) es h.0 h.1 (λ before e fit shows. shows.notes);
  values = all_pass t program sound good (λ (e : Entry). values_fit t program e.instance e.what) es h.0 h.1 (λ before e fit shows. entry_values t program sound good e fit);
  returned = λ before rest e is. (run_shows t program sound good es h.0 h.1 before e rest is).returned;
}

pub returns-clause-printable : goal.returns-clause-printable
returns-clause-printable c = λ t program sound good es h. (
  all_pass t program sound good (entry_is_named t program) es h.0 h.1 (λ before e fit shows. entry_named t program sound good e fit),
  all_pass t program sound good (λ (e : Entry). sets_or_saves t.model e.instance e.what) es h.0 h.1 (λ before e fit shows. shows.commands),
)
