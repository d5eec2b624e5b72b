use Rattle.std.proofs.lemmas.Result.{IfOk-weaker}
use Rattle.fp_reach.proofs.Telling.{vertices_tell}
use Rattle.fp_reach.proofs.cycles.cyclic.Goals as goal

pub returns : goal.returns
returns c = IfOk-weaker c.on_cycles.result _ _ (λ found h. h vertices_tell) c.on_cycles.ensures
