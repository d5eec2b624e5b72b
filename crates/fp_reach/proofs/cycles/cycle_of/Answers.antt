use Rattle.std.proofs.Common.{false, subst}
use Rattle.std.proofs.lemmas.Result.{IfOk-weaker}
use Rattle.fp_reach.specs.Found.{IsRing}
use Rattle.fp_reach.specs.Vertices.{handlers_from}
use Rattle.fp_reach.proofs.Answering.{is_synchronous}
use Rattle.fp_reach.proofs.cycles.cycle_of.Goals as goal

pub returns-in-Some : goal.returns-in-Some
returns-in-Some c =
    is_synchronous c.args.tables.now c.args.program.now c.in-Some.ring
    (subst (IsRing (handlers_from c.args.tables.now false 0 c.args.program.now.handlers)) c.in-Some.is c.in_ok-found.ensures)

pub returns-in-None : goal.returns-in-None
returns-in-None c =
    IfOk-weaker c.lock_cycle_of.result _ _ (λ cycle h. h (subst (IsRing (handlers_from c.args.tables.now false 0 c.args.program.now.handlers)) c.in-None.is c.in_ok-found.ensures))
    c.lock_cycle_of.ensures
