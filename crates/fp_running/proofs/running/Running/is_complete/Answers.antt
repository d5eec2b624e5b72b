use Rattle.std.proofs.Common.{◌≡◌, ◌∙◌, ◌&&◌, sym, ap, subst}
use Rattle.std.specs.List.{list_all}
use Rattle.fp_events.specs.Ends.{is_complete, is_through}
use Rattle.fp_tables.specs.Lookup.{placed}
use Rattle.fp_running.specs.Closing.{are_idle}
use Rattle.fp_running.specs.Progress.{Progress, Leaves}
use Rattle.fp_running.proofs.Closed.{complete}
use Rattle.fp_running.proofs.running.Running.is_complete.Goals as goal

pub returns : goal.returns
returns c = λ w leaves.
    let i = c.self.inside in
    let there = subst (λ (r : Progress). Leaves r w) (sym c.self.view_is) leaves in
    let same = c.outcomes.ensures i.tables.now i.program.now i.done c.self.invariant.world w c.self.invariant.run there in
    subst (λ (r : Progress). (c.all_through-through.result && c.all_idle-idle.result) ≡ is_complete r.tables r.program w) c.self.view_is
    (complete i.tables.now i.program.now i.done i.cells.items i.actors.items c.self.invariant w same c.all_through-through.result c.all_idle-idle.result
    (rw (c.as_slice.ensures.value) at c.all_through-through.ensures) (rw (c.placed.ensures, c.as_slice-2.ensures.value) at c.all_idle-idle.ensures))
