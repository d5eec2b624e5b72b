use Rattle.std.proofs.Common.{ℕ, ◌+◌, Bool, true, false, List, length, set, sym, subst, ap, ◌∙◌, arith}
use Rattle.fp_base.proofs.Lists.{get_along}
use Rattle.fp_graph.specs.Depths.{AreDepths}
use Rattle.fp_graph.proofs.Deepening.{passed_depths, measured_depths}
use Rattle.fp_graph.proofs.depths.measure.Goals as goal

pub returns-then-is_flagged : goal.returns-then-is_flagged
returns-then-is_flagged c =
    let here = get_along c.args.index c.vertex_at-vertex.result c.deref.ensures.value c.vertex_at-vertex.ensures in
    let flag = get_along c.vertex_at-vertex.result true c.deref-2.ensures.value c.if-is_flagged.ensures in
    passed_depths c.args.stretches.now c.args.targets.now 257 c.args.sorted.now.order.items c.args.sorted.now.cyclic.items c.requires.sorted c.args.index c.args.depths.now
    c.requires.before c.vertex_at-vertex.result here flag

pub is_flagged-requires : goal.is_flagged-requires
is_flagged-requires c =
    let here = get_along c.args.index c.vertex_at-vertex.result c.deref.ensures.value c.vertex_at-vertex.ensures in
    let lt = c.requires.sorted.ordered.within c.args.index c.vertex_at-vertex.result here in
    let each = c.requires.sorted.flagged.each in
    let same = ap (λ (l : List Bool). length l) c.deref-2.ensures.value in
    omega arith

pub stretch_at-stretch-requires : goal.stretch_at-stretch-requires
stretch_at-stretch-requires c =
    let here = get_along c.args.index c.vertex_at-vertex.result c.deref.ensures.value c.vertex_at-vertex.ensures in
    c.requires.sorted.ordered.within c.args.index c.vertex_at-vertex.result here

pub set_depth-requires : goal.set_depth-requires
set_depth-requires c =
    let here = get_along c.args.index c.vertex_at-vertex.result c.deref.ensures.value c.vertex_at-vertex.ensures in
    let lt = c.requires.sorted.ordered.within c.args.index c.vertex_at-vertex.result here in
    let each = c.requires.before.each in
    omega arith

pub returns : goal.returns
returns c =
    let v = c.vertex_at-vertex.result in
    let here = get_along c.args.index v c.deref.ensures.value c.vertex_at-vertex.ensures in
    let flag = get_along v false c.deref-2.ensures.value c.if-is_flagged.ensures in
    let new = c.set_depth.ensures ∙ ap (λ (d : ℕ). set c.args.depths.now v d) c.one_more-depth.ensures in
    subst (λ (l : List ℕ). AreDepths c.args.stretches.now c.args.targets.now 257 c.args.sorted.now.order.items (c.args.index + 1) l) (sym new)
    (measured_depths c.args.stretches.now c.args.targets.now 257 c.args.sorted.now.order.items c.args.sorted.now.cyclic.items c.requires.sorted c.args.index c.args.depths.now
    c.requires.before v here flag c.stretch_at-stretch.result c.stretch_at-stretch.ensures c.deepest.result c.deepest.ensures)
