use Rattle.std.proofs.Common.{◌∙◌, ◌||◌, ℕ, ◌+◌, Bool, cond, List, Option, Some, None, length, flat_map, set, sym, subst, ap, arith}
use Rattle.fp_base.proofs.Spots.{item_below}
use Rattle.fp_base.proofs.Lists.{get_along}
use Rattle.fp_written_parts.specs.declared.topology.ImportedTopology.{ImportedTopology}
use Rattle.fp_topologies.specs.Filled.{AreFilled, imported_of, some_lacks_closure}
use Rattle.fp_topologies.specs.Imports.{first_of_each, with_imports}
use Rattle.fp_topologies.proofs.Orders.{filled_next}
use Rattle.fp_topologies.proofs.filling.fill.Goals as goal

pub is_flagged-cyclic-requires : goal.is_flagged-cyclic-requires
is_flagged-cyclic-requires c =
    let here = get_along c.args.at c.vertex_at-vertex.result c.deref.ensures.value c.vertex_at-vertex.ensures in
    let lt = c.requires.order.within c.args.at c.vertex_at-vertex.result here in
    let each = c.requires.cyclic.each in
    let same = ap (λ (l : List Bool). length l) c.deref-2.ensures.value in
    omega arith

pub imports_at-imports-requires : goal.imports_at-imports-requires
imports_at-imports-requires c =
    let here = get_along c.args.at c.vertex_at-vertex.result c.deref.ensures.value c.vertex_at-vertex.ensures in
    c.requires.order.within c.args.at c.vertex_at-vertex.result here

pub note-requires : goal.note-requires
note-requires c =
    let here = get_along c.args.at c.vertex_at-vertex.result c.deref.ensures.value c.vertex_at-vertex.ensures in
    let lt = c.requires.order.within c.args.at c.vertex_at-vertex.result here in
    let each = c.requires.before.each in
    omega arith

abbrev found_by : List (Option (List ℕ)) → Bool → List ImportedTopology → Option (List ℕ)
found_by closures flag is = cond (flag || some_lacks_closure closures is) None (Some (first_of_each (flat_map (with_imports closures) (imported_of is))))

pub returns : goal.returns
returns c =
    let ts = c.args.written.now in
    let order = c.args.sorted.now.order.items in
    let cyclic = c.args.sorted.now.cyclic.items in
    let closures = c.args.closures.now.items in
    let v = c.vertex_at-vertex.result in
    let flag = c.is_flagged-cyclic.result in
    let here = get_along c.args.at v c.deref.ensures.value c.vertex_at-vertex.ensures in
    let told = get_along v flag c.deref-2.ensures.value c.is_flagged-cyclic.ensures in
    let t = item_below ts v (c.requires.order.within c.args.at v here) in
    let found_is =
    c.in_ok-closure.ensures ∙ ap (λ (gs : List (Option (List ℕ))). found_by gs flag c.imports_at-imports.result.now) c.as_slice.ensures.value
    ∙ ap (found_by closures flag) (c.imports_at-imports.ensures t.0 t.1) in
    let next = filled_next ts order cyclic c.requires.order c.requires.cyclic c.args.at v t.0 flag closures here told t.1 c.requires.before in
    subst (AreFilled ts order (c.args.at + 1)) (sym (c.note.ensures ∙ ap (set closures v) found_is)) next
