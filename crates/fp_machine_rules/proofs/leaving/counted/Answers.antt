use Rattle.std.proofs.Common.{◌≡◌, ◌<◌, ℕ, suc, Option, Some, None, List, slice_get, refl, subst, sym, ap, ◌∙◌, arith}
use Rattle.std.specs.Ordering.{nat_cmp}
use Rattle.std.specs.BTreeSet.{contains}
use Rattle.fp_machine_rules.specs.declared.gathering.Move.{Move}
use Rattle.fp_machine_rules.specs.declared.gathering.Parts.{Parts}
use Rattle.fp_machine_rules.specs.Leaving.{AddsOwn}
use Rattle.fp_machine_rules.proofs.Outward.{IsCounting, counting_goes_on, parent_before}
use Rattle.fp_machine_rules.proofs.leaving.counted.Invariants.{left_around}
use Rattle.fp_machine_rules.proofs.leaving.counted.Goals as goal

pub line-preserved : goal.line-preserved
line-preserved c =
    let items = c.args.items.now in
    let here = c.in-Some.here in
    let h = subst (λ (o : Option ℕ). IsCounting items c.args.state o (contains nat_cmp c.line.noted) c.line.row) c.in-Some.is c.line.invariant in
    let there = c.requires.gathered.exact here (h.within here refl) in
    let own = c.moves_of.ensures _ (ap (λ (ps : List Parts). slice_get ps here) c.deref.ensures.value ∙ there) in
    subst (λ (o : Option ℕ). IsCounting items c.args.state o (contains nat_cmp c.add_own.new.noted) c.add_own.new.row) (sym c.parent_of-around.ensures)
    (counting_goes_on items c.args.state c.requires.laid here _ _ _ _ h
    (subst (λ (ms : List Move). AddsOwn ms (contains nat_cmp c.line.noted) c.line.row (contains nat_cmp c.add_own.new.noted) c.add_own.new.row) own c.in_ok-add_own.ensures))

smaller : (around here_parent : Option ℕ) (here : ℕ) → around ≡ Some here → ((p : ℕ) → here_parent ≡ Some p → p < here) → left_around here_parent < left_around around
smaller around None here is before = subst (λ (o : Option ℕ). 0 < left_around o) (sym is) (omega arith)
smaller around (Some p) here is before = let b = before p refl in subst (λ (o : Option ℕ). suc p < left_around o) (sym is) (omega (arith, b))

pub line-smaller : goal.line-smaller
line-smaller c =
    smaller c.line.around c.parent_of-around.result c.in-Some.here c.in-Some.is
    (λ p e. parent_before c.args.items.now c.args.state c.requires.laid c.in-Some.here p (sym c.parent_of-around.ensures ∙ e))
