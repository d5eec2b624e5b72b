use Rattle.std.proofs.Common.{refl}
use Rattle.fp_tables.specs.Machines.{target_by}
use Rattle.fp_events.specs.Due.{due}
use Rattle.fp_events.specs.Follows.{follows}
use Rattle.fp_events.specs.Tells.{tells}
use Rattle.fp_events.specs.Leaves.{leaves}
use Rattle.fp_events.specs.Answers.{answers}
use Rattle.fp_events.specs.Fits.{fits, what_fits}
use Rattle.fp_events.specs.Step.{instance_part, actor_part}
use Rattle.fp_events.proofs.worked.signal_value_log.Goals as goal

pub returns-clause-made : goal.returns-clause-made
unfolding due follows tells leaves answers fits what_fits instance_part actor_part target_by
returns-clause-made c = record { entries = refl; ending = refl; waiting = refl }

pub returns-clause-given : goal.returns-clause-given
unfolding fits what_fits target_by
returns-clause-given c = refl

pub returns-clause-other_type : goal.returns-clause-other_type
unfolding fits what_fits target_by
returns-clause-other_type c = refl
