use Rattle.std.proofs.Common.{◌∙◌, List, ℕ, length, map, subst}
use Rattle.fp_base.proofs.Options.{if_ok_then}
use Rattle.fp_base.proofs.Mapped.{many_mapped}
use Rattle.fp_graph.specs.Chains.{AreFlags, IsOnCycle, IsOrder}
use Rattle.fp_graph.specs.Rows.{IsListed}
use Rattle.fp_graph.proofs.Alike.{cyclic_alike, order_alike}
use Rattle.fp_topologies.specs.Imports.{imported_by, Imports}
use Rattle.fp_topologies.proofs.Graph.{same_imports}
use Rattle.fp_topologies.proofs.import_sorting.sorted_topologies.Goals as goal

pub returns-clause-order : goal.returns-clause-order
returns-clause-order c =
    let ts = c.args.written.now in
    if_ok_then c.chains_of.result _ _
    (λ chained o.
    order_alike (length (map imported_by ts)) (length ts) (IsListed (map imported_by ts)) (Imports ts) (many_mapped imported_by ts) (λ v w. (same_imports ts c.requires v w).1)
    (λ v w. (same_imports ts c.requires v w).0) chained.order.items
    (subst (λ (rows : List (List ℕ)). IsOrder (length rows) (IsListed rows) chained.order.items) (c.as_slice.ensures.value ∙ c.in_ok-rows.ensures) o))
    c.chains_of.ensures.order

pub returns-clause-cyclic : goal.returns-clause-cyclic
returns-clause-cyclic c =
    let ts = c.args.written.now in
    if_ok_then c.chains_of.result _ _
    (λ chained o.
    cyclic_alike (length (map imported_by ts)) (length ts) (IsListed (map imported_by ts)) (Imports ts) (many_mapped imported_by ts) (λ v w. (same_imports ts c.requires v w).1)
    (λ v w. (same_imports ts c.requires v w).0) chained.cyclic.items
    (subst (λ (rows : List (List ℕ)). AreFlags (length rows) (IsOnCycle (IsListed rows)) chained.cyclic.items) (c.as_slice.ensures.value ∙ c.in_ok-rows.ensures) o))
    c.chains_of.ensures.cyclic
