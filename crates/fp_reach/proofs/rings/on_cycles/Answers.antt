use Rattle.std.proofs.Common.{ℕ, Bool, List, length, subst, sym}
use Rattle.std.proofs.lemmas.Result.{IfOk-weaker}
use Rattle.fp_graph.specs.Chains.{IsOnCycle, AreFlags}
use Rattle.fp_graph.specs.Rows.{IsListed}
use Rattle.fp_reach.proofs.OnCycles.{on_cycles_found}
use Rattle.fp_reach.proofs.rings.on_cycles.Goals as goal

pub returns : goal.returns
returns g c =
    let graph = c.in_ok-graph.graph in
    let rows = graph.rows.items in
    let of_rows : AreFlags (length rows) (IsOnCycle (IsListed rows)) c.in_ok-chained.chained.cyclic.items =
    subst (λ (r : List (List ℕ)). AreFlags (length r) (IsOnCycle (IsListed r)) c.in_ok-chained.chained.cyclic.items) c.as_slice.ensures.value c.in_ok-chained.ensures.cyclic in
    let right : AreFlags (length rows) (IsOnCycle (IsListed rows)) c.as_slice-2.result.now =
    subst (λ (f : List Bool). AreFlags (length rows) (IsOnCycle (IsListed rows)) f) (sym c.as_slice-2.ensures.value) of_rows in
    IfOk-weaker c.cyclic_targets.result _ _
    (λ found is tells. on_cycles_found g.K.Ord.cmp c.args.edges.now graph.numbers rows (c.in_ok-graph.ensures tells) c.as_slice-2.result.now right found.items is)
    c.cyclic_targets.ensures
