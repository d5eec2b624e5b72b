use Rattle.std.proofs.Common.{◌≡◌, ◌↔◌, ℕ, List, length, flat_map, ap, sym, subst, ◌∙◌}
use Rattle.fp_base.proofs.Options.{if_ok_then}
use Rattle.fp_graph.specs.declared.sorting.Chained.{Chained}
use Rattle.fp_graph.specs.Rows.{IsListed}
use Rattle.fp_meaning.specs.Names.{definitions_of}
use Rattle.fp_meaning.specs.Uses.{Uses}
use Rattle.fp_uses.proofs.Along.{order_along, cyclic_along, deep_along}
use Rattle.fp_uses.proofs.using.sorted_uses.Goals as goal

many : (c : goal.After-drop-rows) → length c.as_slice.result.now ≡ length (flat_map definitions_of c.args.items.now)
many c = ap length c.as_slice.ensures.value ∙ c.in_ok-rows.ensures.each

same : (c : goal.After-drop-rows) (a b : ℕ) → Uses c.args.items.now a b ↔ IsListed c.as_slice.result.now a b
same c a b = subst (λ (rows : List (List ℕ)). Uses c.args.items.now a b ↔ IsListed rows a b) (sym c.as_slice.ensures.value) (c.in_ok-rows.ensures.uses a b)

pub returns-clause-order : goal.returns-clause-order
returns-clause-order c =
    if_ok_then c.chains_of.result _ _
    (λ (x : Chained) h. order_along (length (flat_map definitions_of c.args.items.now)) c.as_slice.result.now (Uses c.args.items.now) (many c) (same c) x.order.items h) c.chains_of.ensures.order

pub returns-clause-cyclic : goal.returns-clause-cyclic
returns-clause-cyclic c =
    if_ok_then c.chains_of.result _ _
    (λ (x : Chained) h. cyclic_along (length (flat_map definitions_of c.args.items.now)) c.as_slice.result.now (Uses c.args.items.now) (many c) (same c) x.cyclic.items h) c.chains_of.ensures.cyclic

pub returns-clause-deep : goal.returns-clause-deep
returns-clause-deep c =
    if_ok_then c.chains_of.result _ _
    (λ (x : Chained) h. deep_along (length (flat_map definitions_of c.args.items.now)) c.as_slice.result.now (Uses c.args.items.now) (many c) (same c) x.deep.items h) c.chains_of.ensures.deep
