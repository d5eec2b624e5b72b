use Rattle.fp_plant.proofs.Following as lemmas
use Rattle.fp_plant.proofs.law.answered.Goals as goal

pub returns-clause-goes_on : goal.returns-clause-goes_on
returns-clause-goes_on c = lemmas.goes_on

pub returns-clause-rests : goal.returns-clause-rests
returns-clause-rests c = lemmas.rests
