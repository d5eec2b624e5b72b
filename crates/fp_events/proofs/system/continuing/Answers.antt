use Rattle.fp_events.proofs.Merged.{continued}
use Rattle.fp_events.proofs.system.continuing.Goals as goal

pub returns : goal.returns
returns g c = λ y laws histories traces w v m es more at_are by_are h. continued y laws histories traces w v m es more at_are by_are h
