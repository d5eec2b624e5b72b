use Rattle.std.proofs.Common.{refl}
use Rattle.fp_events.specs.Due.{due}
use Rattle.fp_events.specs.Follows.{follows}
use Rattle.fp_events.specs.Tells.{tells}
use Rattle.fp_events.specs.Leaves.{leaves}
use Rattle.fp_events.specs.Answers.{answers}
use Rattle.fp_events.specs.Fits.{fits, what_fits}
use Rattle.fp_events.specs.Step.{instance_part, actor_part}
use Rattle.fp_events.proofs.worked.hook_handler_log.Goals as goal

pub returns-clause-handled : goal.returns-clause-handled
unfolding due follows tells leaves answers fits what_fits instance_part actor_part
returns-clause-handled c = record { entries = refl; ending = refl; waiting = refl }

pub returns-clause-unhandled : goal.returns-clause-unhandled
unfolding due follows tells leaves answers fits what_fits instance_part actor_part
returns-clause-unhandled c = record { entries = refl; ending = refl; waiting = refl }

pub returns-clause-own_handler : goal.returns-clause-own_handler
unfolding due follows tells leaves answers fits what_fits instance_part actor_part
returns-clause-own_handler c = record { entries = refl; ending = refl; waiting = refl }
