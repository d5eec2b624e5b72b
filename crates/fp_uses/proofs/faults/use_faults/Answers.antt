use Rattle.std.proofs.Common.{◌≡◌, ℕ, List, length, flat_map, sym, ap, subst, ◌∙◌}
use Rattle.fp_base.specs.Least.{lesser_of, Either, IsLeast}
use Rattle.fp_base.proofs.Calculus.{least_along, least_either}
use Rattle.fp_graph.specs.Chains.{AreFlags, Chain, IsOnCycle}
use Rattle.fp_meaning.specs.declared.group.Group.TheVariants.{Kind, Value}
use Rattle.fp_meaning.specs.declared.item.Item.{Item}
use Rattle.fp_meaning.specs.declared.names.Definition.{Definition}
use Rattle.fp_meaning.specs.Layout as layout
use Rattle.fp_meaning.specs.Names.{definitions_of}
use Rattle.fp_meaning.specs.Uses.{Uses, BrokenByChains}
use Rattle.fp_uses.proofs.faults.use_faults.Goals as goal

pub returns : goal.returns
returns c =
    let items = c.items-items.result.now in
    let laid : items ≡ layout.items c.args.source.now = c.items-items.ensures ∙ c.in_ok-layout.ensures in
    let are : c.as_slice-definitions.result.now ≡ flat_map definitions_of items = c.as_slice-definitions.ensures ∙ c.in_ok-row.ensures in
    let count : length (flat_map definitions_of items) ≡ length c.as_slice-definitions.result.now = ap (λ (ds : List Definition). length ds) (sym are) in
    let cyclic = subst (λ (n : ℕ). AreFlags n (IsOnCycle (Uses items)) c.in_ok-chained.chained.cyclic.items) count c.in_ok-chained.ensures.cyclic in
    let deep = subst (λ (n : ℕ). AreFlags n (λ number. Chain n (Uses items) number 256) c.in_ok-chained.chained.deep.items) count c.in_ok-chained.ensures.deep in
    least_along (sym c.lesser.ensures)
    (subst (λ (ps : List Item). IsLeast (Either (BrokenByChains ps Kind) (BrokenByChains ps Value)) (lesser_of c.chain_faults.result c.chain_faults-2.result)) laid
    (least_either c.chain_faults.result c.chain_faults-2.result (c.chain_faults.ensures items are cyclic deep) (c.chain_faults-2.ensures items are cyclic deep)))
