use Rattle.fp_events.proofs.Decompose.{decompose}
use Rattle.fp_events.proofs.Merged.{decomposed}
use Rattle.fp_events.proofs.system.decomposition.Goals as goal

pub returns : goal.returns
returns g c = record {
  by_stamps = λ y laws es v stamped kept told. decompose y laws es v stamped kept told;
  by_agreement = λ y laws histories traces v m es at_are by_are. decomposed y laws histories traces v m es at_are by_are;
}
