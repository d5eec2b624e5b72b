use Rattle.fp_machines.proofs.Counts.{counted_more}
use Rattle.fp_machines.proofs.counting.count.Goals as goal

pub returns : goal.returns
returns c = λ before h. counted_more before _ _ _ c.in_ok-push.ensures.ok c.in_ok-more.ensures h
