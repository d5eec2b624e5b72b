use Rattle.std.proofs.Common.{◌≡◌, ◌∙◌, map, sym, subst}
use Rattle.fp_tables.specs.Lookup.{placed}
use Rattle.fp_events.specs.Run.{actors, at, by}
use Rattle.fp_running.specs.Progress.{Progress}
use Rattle.fp_running.proofs.Closed.{histories_are, traces_are}
use Rattle.fp_running.proofs.running.Running.into_records.Goals as goal

pub returns-clause-histories : goal.returns-clause-histories
returns-clause-histories c =
    let i = c.self.inside in
    subst (λ (r : Progress). c.in_ok-histories.histories ≡ map (λ i. at i r.entries) (placed r.tables)) c.self.view_is
    (c.in_ok-histories.ensures ∙ histories_are i.tables.now i.program.now i.done i.cells.items i.actors.items c.self.invariant)

pub returns-clause-traces : goal.returns-clause-traces
returns-clause-traces c =
    let i = c.self.inside in
    subst (λ (r : Progress). c.in_ok-traces.traces ≡ map (λ a. by a r.entries) (actors r.tables r.program)) c.self.view_is
    (c.in_ok-traces.ensures ∙ traces_are i.tables.now i.program.now i.done i.cells.items i.actors.items c.self.invariant)
