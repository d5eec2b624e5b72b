use Rattle.fp_events.proofs.OfRun.{kept_rises, told_rises}
use Rattle.fp_events.proofs.system.rising.Goals as goal

pub returns : goal.returns
returns g c = record {
  history = λ y laws i es h. kept_rises y laws i es h.0 h.1;
  trace = λ y laws a es h. told_rises y laws a es h.0 h.1;
}
