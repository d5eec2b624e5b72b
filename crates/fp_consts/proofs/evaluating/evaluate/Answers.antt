use Rattle.fp_base.proofs.Calculus.{none_broken, least_along}
use Rattle.fp_consts.proofs.Answered.{all_stand}
use Rattle.fp_consts.proofs.evaluating.evaluate.Goals as goal

pub returns-in_ok-at-in-None-clause-values : goal.returns-in_ok-at-in-None-clause-values
returns-in_ok-at-in-None-clause-values c = all_stand _ _ _ _ c.in_ok-marks.ensures.at c.in_ok-at-in-None.ensures

pub returns-in_ok-at-in-None-clause-unbroken : goal.returns-in_ok-at-in-None-clause-unbroken
returns-in_ok-at-in-None-clause-unbroken c = none_broken (least_along c.in-None.is c.in_ok-marks.ensures.first)
