use Rattle.std.proofs.Common.{ap}
use Rattle.fp_cell.specs.Stepping.{inside}
use Rattle.fp_cell.specs.Waiting.{Waiting}
use Rattle.fp_cell.proofs.NextTaken.{taken_step, dispatched_step}
use Rattle.fp_cell.proofs.taking.take.Goals as goal

pub returns-clause-take : goal.returns-clause-take
returns-clause-take c =
    λ t program i. rw c.both.ensures
    (taken_step t program i c.args.actor (inside c.args.state.now) c.take.new.self.pending c.take.new.self.puts c.in_ok-call.call c.requires c.in_ok-call.ensures.next
    (ap (λ (w : Waiting). w.puts) c.take.ensures.pending))

pub returns-clause-dispatch : goal.returns-clause-dispatch
returns-clause-dispatch c =
    λ t program i. rw c.both.ensures
    (dispatched_step t program i c.args.actor (inside c.args.state.now) c.take.new.self.pending c.take.new.self.puts c.in_ok-call.call c.requires c.in_ok-call.ensures.next
    (ap (λ (w : Waiting). w.puts) c.take.ensures.pending))
