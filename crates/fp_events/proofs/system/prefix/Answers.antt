use Rattle.fp_events.specs.SystemRun.{opening, Step}
use Rattle.fp_events.proofs.Turns.{InTurn-split}
use Rattle.fp_events.proofs.system.prefix.Goals as goal

pub returns : goal.returns
returns g c = λ y before rest h. let cut = InTurn-split (Step y) before rest (opening y) h.0 h.1 in (cut.0, cut.1)
