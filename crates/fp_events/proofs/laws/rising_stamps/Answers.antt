use Rattle.fp_events.specs.SystemRun.{opening}
use Rattle.fp_events.proofs.OfRun.{at_run, by_run, kept_rises, told_rises}
use Rattle.fp_events.specs.Step.{core}
use Rattle.fp_events.specs.Run.{at, by}
use Rattle.fp_events.proofs.StepLaws.{core_laws}
use Rattle.fp_events.proofs.laws.rising_stamps.Goals as goal

pub returns : goal.returns
returns c = record {
  history = λ tables program i es h. kept_rises (core tables program) (core_laws tables program) i es h.0 h.1;
  trace = λ tables program a es h. told_rises (core tables program) (core_laws tables program) a es h.0 h.1;
  instance = λ tables program es h i.
      kept_rises (core tables program) (core_laws tables program) i (at i es) (h.0.instances i)
      (at_run (core tables program) (core_laws tables program) es (opening (core tables program)) h.0 h.1 i);
  actor = λ tables program es h a.
      told_rises (core tables program) (core_laws tables program) a (by a es) (h.0.actors a)
      (by_run (core tables program) (core_laws tables program) es (opening (core tables program)) h.0 h.1 a);
}
