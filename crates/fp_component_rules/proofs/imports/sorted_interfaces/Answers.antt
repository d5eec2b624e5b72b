use Rattle.std.proofs.Common.{◌∙◌, List, ℕ, length, map, subst}
use Rattle.fp_base.proofs.Options.{if_ok_then}
use Rattle.fp_base.proofs.Mapped.{many_mapped}
use Rattle.fp_graph.specs.Chains.{AreFlags, IsOnCycle, IsOrder}
use Rattle.fp_graph.specs.Rows.{IsListed}
use Rattle.fp_graph.proofs.Alike.{cyclic_alike, order_alike}
use Rattle.fp_written_parts.specs.declared.member.WrittenInterface.{WrittenInterface}
use Rattle.fp_written_parts.specs.Giving.{Imports}
use Rattle.fp_component_rules.specs.Links.{imported_in}
use Rattle.fp_component_rules.proofs.Sorting.{same_imports}
use Rattle.fp_component_rules.proofs.imports.sorted_interfaces.Goals as goal

abbrev row_of : WrittenInterface → List ℕ
row_of f = imported_in f.members

pub returns-clause-order : goal.returns-clause-order
returns-clause-order c =
    let fs = c.args.interfaces.now in
    if_ok_then c.chains_of.result _ _
    (λ chained o.
    order_alike (length (map row_of fs)) (length fs) (IsListed (map row_of fs)) (Imports fs) (many_mapped row_of fs) (λ v w. (same_imports fs c.requires v w).1)
    (λ v w. (same_imports fs c.requires v w).0) chained.order.items
    (subst (λ (rows : List (List ℕ)). IsOrder (length rows) (IsListed rows) chained.order.items) (c.as_slice.ensures.value ∙ c.in_ok-rows.ensures) o))
    c.chains_of.ensures.order

pub returns-clause-cyclic : goal.returns-clause-cyclic
returns-clause-cyclic c =
    let fs = c.args.interfaces.now in
    if_ok_then c.chains_of.result _ _
    (λ chained o.
    cyclic_alike (length (map row_of fs)) (length fs) (IsListed (map row_of fs)) (Imports fs) (many_mapped row_of fs) (λ v w. (same_imports fs c.requires v w).1)
    (λ v w. (same_imports fs c.requires v w).0) chained.cyclic.items
    (subst (λ (rows : List (List ℕ)). AreFlags (length rows) (IsOnCycle (IsListed rows)) chained.cyclic.items) (c.as_slice.ensures.value ∙ c.in_ok-rows.ensures) o))
    c.chains_of.ensures.cyclic
