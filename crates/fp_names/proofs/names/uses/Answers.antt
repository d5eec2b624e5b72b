use Rattle.fp_base.proofs.Calculus.{none_broken, least_along}
use Rattle.fp_names.proofs.names.uses.Goals as goal

pub returns-in-None-clause-meant : goal.returns-in-None-clause-meant
returns-in-None-clause-meant c = none_broken (least_along c.in-None.is c.in_ok-found.ensures.least)
