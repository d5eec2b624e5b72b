use Rattle.std.proofs.Common.{ℕ, ◌≤◌, Bool, List, length, map, nat_lt, sym, subst, ap, ◌∙◌, arith}
use Rattle.fp_graph.specs.Graph.{Edge}
use Rattle.fp_graph.specs.Chains.{AreFlags, Chain}
use Rattle.fp_graph.proofs.Deepening.{heads_from}
use Rattle.std.proofs.lemmas.Result.{IfOk-weaker}
use Rattle.fp_graph.proofs.depths.too_deep.Goals as goal

pub returns : goal.returns
returns c =
    let order = c.args.sorted.now.order.items in
    let over : length order ≤ c.order.index = omega (arith, c.len-index-end.ensures, c.args.sorted.now.order.ok.0) in
    IfOk-weaker c.are_long.result _ _
    (λ flags e.
    subst (λ (l : List Bool). AreFlags (length c.args.stretches.now) (λ v. Chain (length c.args.stretches.now) (Edge c.args.stretches.now c.args.targets.now) v 256) l)
    (sym (e ∙ ap (λ (l : List ℕ). map (λ (depth : ℕ). nat_lt 256 depth) l) c.deref.ensures.value))
    (heads_from c.args.stretches.now c.args.targets.now order c.args.sorted.now.cyclic.items c.order.index c.order.depths.items c.requires over c.order.invariant))
    c.are_long.ensures
