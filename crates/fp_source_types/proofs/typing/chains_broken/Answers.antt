use Rattle.std.proofs.Common.{◌≡◌, ℕ, List, length, flat_map, sym, ap, subst, ◌∙◌}
use Rattle.fp_graph.specs.Chains.{AreFlags, Chain, IsOnCycle}
use Rattle.fp_meaning.specs.declared.names.Definition.{Definition}
use Rattle.fp_meaning.specs.Names.{definitions_of}
use Rattle.fp_meaning.specs.Uses.{Uses}
use Rattle.fp_source_types.proofs.typing.chains_broken.Goals as goal

pub chain_faults-requires-clause-cyclic : goal.chain_faults-requires-clause-cyclic
chain_faults-requires-clause-cyclic c =
    c.in_ok-chained.ensures.cyclic.each ∙ ap (λ (ds : List Definition). length ds) (sym (c.as_slice-definitions.ensures ∙ c.in_ok-row.ensures))

pub chain_faults-requires-clause-deep : goal.chain_faults-requires-clause-deep
chain_faults-requires-clause-deep c =
    c.in_ok-chained.ensures.deep.each ∙ ap (λ (ds : List Definition). length ds) (sym (c.as_slice-definitions.ensures ∙ c.in_ok-row.ensures))

pub returns : goal.returns
returns c =
    let items = c.args.items.now in
    let are : c.as_slice-definitions.result.now ≡ flat_map definitions_of items = c.as_slice-definitions.ensures ∙ c.in_ok-row.ensures in
    let count : length (flat_map definitions_of items) ≡ length c.as_slice-definitions.result.now = ap (λ (ds : List Definition). length ds) (sym are) in
    let cyclic = subst (λ (n : ℕ). AreFlags n (IsOnCycle (Uses items)) c.in_ok-chained.chained.cyclic.items) count c.in_ok-chained.ensures.cyclic in
    let deep = subst (λ (n : ℕ). AreFlags n (λ number. Chain n (Uses items) number 256) c.in_ok-chained.chained.deep.items) count c.in_ok-chained.ensures.deep in
    c.chain_faults.ensures items are cyclic deep
