use Rattle.std.proofs.Common.{slice_get, List, ℕ, subst, sym, ap, ◌∙◌, arith}
use Rattle.fp_machine_rules.specs.declared.item.Target.{Target}
use Rattle.fp_machine_rules.specs.Visits.{Adds}
use Rattle.fp_machine_rules.proofs.Visited.{walk_begins, walk_goes_on, walk_ends, walk_short}
use Rattle.fp_machine_rules.proofs.reaching.reach.Goals as goal

pub vertices-init : goal.vertices-init
vertices-init c =
    walk_begins c.args.rows.now c.args.starts.now _ _ _ _ c.in_ok-visit.ensures.size c.in_ok-visit.ensures.none
    (c.in_ok-add_all.ensures.kept c.in_ok-visit.ensures.visit) c.in_ok-add_all.ensures.adds

pub vertices-smaller : goal.vertices-smaller
vertices-smaller c = let short = walk_short c.args.rows.now c.args.starts.now _ _ _ c.vertices.invariant in omega (arith, short, c.vertices-test.true, c.len.ensures, c.vertices.visit.found.ok.0)

pub vertices-preserved : goal.vertices-preserved
vertices-preserved c =
    walk_goes_on c.args.rows.now c.args.starts.now c.vertices.at c.vertex_at-vertex.result _ _ _ _ c.vertices.invariant
    (ap (λ (xs : List ℕ). slice_get xs c.vertices.at) (sym c.deref.ensures.value) ∙ c.vertex_at-vertex.ensures)
    c.in_ok-add_all-2.ensures.kept
    (subst (λ (ts : List Target). Adds ts c.vertices.visit.seen.items c.vertices.visit.found.items c.add_all-in-vertices.new.visit.seen.items c.add_all-in-vertices.new.visit.found.items)
    c.row_of.ensures c.in_ok-add_all-2.ensures.adds)

pub returns : goal.returns
returns c = walk_ends c.args.rows.now c.args.starts.now c.vertices.at _ _ c.vertices.invariant (omega (arith, c.vertices-test.false, c.len.ensures, c.vertices.visit.found.ok.0))
