use Rattle.std.proofs.Common.{rules}
use Rattle.fp_gate.proofs.Ends.{starts_at}
use Rattle.fp_gate.proofs.lock.TicketLock.lay.Goals as goal

pub new-requires : goal.new-requires
new-requires g c = starts_at g.T.Booked.name g.T.Booked.history c.args.value _ _ (search rules) (search rules) c.requires.bare
