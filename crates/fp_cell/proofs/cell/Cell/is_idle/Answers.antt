use Rattle.std.proofs.Common.{◌≡◌, subst}
use Rattle.fp_events.specs.Ends.{none_pending}
use Rattle.fp_cell.specs.Cells.{Standing}
use Rattle.fp_cell.proofs.Pended.{idle_is}
use Rattle.fp_cell.proofs.cell.Cell.is_idle.Goals as goal

pub returns : goal.returns
returns c =
    subst (λ (s : Standing). c.is_empty.result ≡ none_pending s.state.inside.pending) c.self.view_is
    (idle_is c.is_empty.result c.self.inside.state.calls.pending c.is_empty.ensures)
