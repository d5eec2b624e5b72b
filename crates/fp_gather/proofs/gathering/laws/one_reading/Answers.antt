use Rattle.fp_gather.proofs.OneWalk.{one_walk}
use Rattle.fp_gather.proofs.gathering.laws.one_reading.Goals as goal

pub returns : goal.returns
returns c = one_walk c.one_list.ensures c.one_break.ensures.none
