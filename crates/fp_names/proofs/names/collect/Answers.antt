use Rattle.fp_base.proofs.Calculus.{none_broken, least_along}
use Rattle.fp_names.proofs.names.collect.Goals as goal

pub returns-in-None-clause-once : goal.returns-in-None-clause-once
returns-in-None-clause-once c = none_broken (least_along c.in-None.is c.in_ok-found.ensures.twice)
