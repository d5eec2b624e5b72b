use Rattle.std.proofs.Common.{◌∙◌}
use Rattle.fp_graph.proofs.Listed.{listed_order, listed_cyclic, listed_chains}
use Rattle.fp_graph.proofs.sorting.chains_of.Goals as goal

pub returns-clause-order : goal.returns-clause-order
returns-clause-order c =
    listed_order c.args.rows.now c.as_slice-stretches.result.now c.as_slice-targets.result.now (c.as_slice-stretches.ensures ∙ c.in_ok-flat.ensures.stretches)
    (c.as_slice-targets.ensures ∙ c.in_ok-flat.ensures.targets) c.in_ok-sorted.sorted.order.items c.in_ok-sorted.ensures.ordered

pub returns-clause-cyclic : goal.returns-clause-cyclic
returns-clause-cyclic c =
    listed_cyclic c.args.rows.now c.as_slice-stretches.result.now c.as_slice-targets.result.now (c.as_slice-stretches.ensures ∙ c.in_ok-flat.ensures.stretches)
    (c.as_slice-targets.ensures ∙ c.in_ok-flat.ensures.targets) c.in_ok-sorted.sorted.cyclic.items c.in_ok-sorted.ensures.flagged

pub returns-clause-deep : goal.returns-clause-deep
returns-clause-deep c =
    listed_chains c.args.rows.now c.as_slice-stretches.result.now c.as_slice-targets.result.now (c.as_slice-stretches.ensures ∙ c.in_ok-flat.ensures.stretches)
    (c.as_slice-targets.ensures ∙ c.in_ok-flat.ensures.targets) 256 c.in_ok-deep.deep.items c.in_ok-deep.ensures
