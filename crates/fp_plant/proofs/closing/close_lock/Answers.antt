use Rattle.fp_plant.proofs.Ending.{was_closed}
use Rattle.fp_plant.proofs.closing.close_lock.Goals as goal

pub returns : goal.returns
returns c = was_closed c.args.passes c.closed-held.result c.into_history.result c.into_history.ensures.known c.into_history.ensures.history c.closed-held.ensures
