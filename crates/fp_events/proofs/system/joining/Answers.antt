use Rattle.fp_events.proofs.Rows.{kept_owned, row_of_joined}
use Rattle.fp_events.specs.SystemRun.{row_of}
use Rattle.fp_events.proofs.system.joining.Goals as goal

pub returns : goal.returns
returns g c = λ y laws instances histories few distinct kept i.
    row_of_joined y.instance instances histories few distinct (λ k. kept_owned y laws k (row_of instances histories k) (y.first_instance k) (kept k).0 (kept k).1) i
