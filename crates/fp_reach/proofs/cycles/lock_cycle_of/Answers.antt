use Rattle.std.proofs.Common.{true, subst}
use Rattle.fp_reach.specs.Found.{IsRing}
use Rattle.fp_reach.specs.Vertices.{handlers_from}
use Rattle.fp_reach.proofs.Answering.{is_of_locks, is_none}
use Rattle.fp_reach.proofs.cycles.lock_cycle_of.Goals as goal

pub returns-in-Some : goal.returns-in-Some
returns-in-Some c = λ none.
    is_of_locks c.args.tables.now c.args.program.now c.in-Some.ring none
    (subst (IsRing (handlers_from c.args.tables.now true 0 c.args.program.now.handlers)) c.in-Some.is c.in_ok-found.ensures)

pub returns-in-None : goal.returns-in-None
returns-in-None c = λ none.
    is_none c.args.tables.now c.args.program.now none (subst (IsRing (handlers_from c.args.tables.now true 0 c.args.program.now.handlers)) c.in-None.is c.in_ok-found.ensures)
