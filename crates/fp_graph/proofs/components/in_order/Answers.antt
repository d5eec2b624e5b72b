use Rattle.std.proofs.Common.{Bool, List, length, map, sym, subst, ap, ◌∙◌, arith}
use Rattle.fp_graph.specs.declared.visit.Mark.{Mark}
use Rattle.fp_graph.specs.Graph.{Edge}
use Rattle.fp_graph.specs.Chains.{IsSorted}
use Rattle.fp_graph.specs.Visits.{state_of, is_cyclic}
use Rattle.fp_graph.proofs.Steps.{is_sorted}
use Rattle.fp_graph.proofs.components.in_order.Goals as goal

pub returns : goal.returns
returns c =
    let stretches = c.args.stretches.now in
    let targets = c.args.targets.now in
    let s = state_of c.roots.walk in
    let flags = c.in_ok-cyclic.ensures ∙ ap (λ (m : List Mark). map is_cyclic m) c.deref.ensures.value in
    subst (λ (b : List Bool). IsSorted (length stretches) (Edge stretches targets) s.order b) (sym flags)
    (is_sorted stretches targets s c.roots.invariant.rests (λ v lt. c.roots.invariant.seen v (omega arith)))
