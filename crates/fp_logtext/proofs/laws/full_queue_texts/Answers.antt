use Rattle.std.proofs.Common.{refl}
use Rattle.std.specs.Fmt.{digits}
use Rattle.fp_logtext.proofs.laws.full_queue_texts.Goals as goal

pub returns-clause-drop : goal.returns-clause-drop
unfolding digits
returns-clause-drop c = refl

pub returns-clause-hook : goal.returns-clause-hook
unfolding digits
returns-clause-hook c = refl

pub returns-clause-assert : goal.returns-clause-assert
unfolding digits
returns-clause-assert c = refl

pub returns-clause-block : goal.returns-clause-block
unfolding digits
returns-clause-block c = refl
