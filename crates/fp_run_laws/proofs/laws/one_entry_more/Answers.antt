use Rattle.fp_events.specs.declared.event.Entry.{Entry}
use Rattle.fp_run_laws.proofs.Timing.{with_before-push, timed-push}
use Rattle.fp_run_laws.proofs.laws.one_entry_more.Goals as goal

pub returns-clause-trace : goal.returns-clause-trace
returns-clause-trace c = λ es e. with_before-push (λ (x : Entry). x.stamp) 0 es e

pub returns-clause-history : goal.returns-clause-history
returns-clause-history c = λ ps e seen timed is. timed-push (λ (x : Entry). x.stamp) 0 ps e seen timed is
