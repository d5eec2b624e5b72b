use Rattle.fp_events.specs.SystemRun.{Step}
use Rattle.fp_events.proofs.Turns.{InTurn-split}
use Rattle.fp_events.specs.Step.{core}
use Rattle.fp_events.specs.Run.{opening}
use Rattle.fp_events.proofs.laws.prefixes.Goals as goal

pub returns : goal.returns
returns c = λ tables program before rest h.
    let cut = InTurn-split (Step (core tables program)) before rest (opening tables program) h.0 h.1 in
    (cut.0, cut.1)
