use Rattle.fp_events.proofs.Agreement.{recorded}
use Rattle.fp_events.specs.Step.{core}
use Rattle.fp_events.proofs.StepLaws.{core_laws}
use Rattle.fp_events.proofs.Records.{run_records}
use Rattle.fp_events.proofs.laws.projections.Goals as goal

pub returns : goal.returns
returns c = record {
  kept = λ tables program es h i. (h.0.instances i, (recorded (core tables program) (core_laws tables program) es h.0 h.1).kept i);
  told = λ tables program es h a. (h.0.actors a, (recorded (core tables program) (core_laws tables program) es h.0 h.1).told a);
  agree = λ tables program es h.
      let agree = (recorded (core tables program) (core_laws tables program) es h.0 h.1).agree in
      record { entries = agree.entries; stamps = agree.stamps };
  records = λ tables program es h. run_records tables program es h;
}
