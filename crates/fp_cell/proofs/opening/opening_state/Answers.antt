use Rattle.fp_base.proofs.Options.{if_ok_then}
use Rattle.fp_cell.proofs.Openings.{known_opened}
use Rattle.fp_cell.proofs.opening.opening_state.Goals as goal

pub returns-in-Some-clause-known : goal.returns-in-Some-clause-known
returns-in-Some-clause-known c =
    if_ok_then c.state_of.result _ _
    (λ s e.
    known_opened c.args.tables.now c.args.instance c.in_ok-calls.calls c.queue_size_of.result c.as_slice.result.now c.in_ok-priorities.priorities.items c.in_ok-calls.ensures.size
    c.in_ok-calls.ensures.priorities c.as_slice.ensures.value c.in_ok-priorities.ensures.known s.calls e) c.state_of.ensures.calls
