use Rattle.std.proofs.Common.{refl}
use Rattle.std.specs.Fmt.{digits}
use Rattle.fp_logtext.proofs.laws.hook_handler_texts.Goals as goal

pub returns-clause-handled : goal.returns-clause-handled
unfolding digits
returns-clause-handled c = refl

pub returns-clause-unhandled : goal.returns-clause-unhandled
unfolding digits
returns-clause-unhandled c = refl
