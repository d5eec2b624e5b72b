use Rattle.std.proofs.Common.{◌≡◌, ◌<◌, Some, length, slice_get, refl, sym, subst, ℕ}
use Rattle.std.proofs.lemmas.Option.{slice_get_read, slice_get_within}
use Rattle.fp_base.proofs.Spots.{item_below}
use Rattle.fp_components.specs.Resolved.{IsComponent}
use Rattle.fp_components.proofs.Each.{each_all, each_next, each_none}
use Rattle.fp_components.proofs.components.resolved.Goals as goal

pub loop-at-init : goal.loop-at-init
loop-at-init c fs lists whole = each_none (λ k. IsComponent fs c.args.definitions.now c.args.types.now.written.now) c.new-row.result c.new-row.ensures

pub loop-at-preserved : goal.loop-at-preserved
loop-at-preserved c fs lists whole =
    let ws = c.args.types.now.written.now in
    let all = c.args.components.now in
    let n = c.loop-at.at in
    let x = c.index-components-at.result in
    let at : slice_get all n ≡ Some x = slice_get_read all (length all) n x refl c.loop-at-test.true c.index-components-at.is in
    let there = item_below c.args.lists.now n (subst (λ (k : ℕ). n < k) (sym lists.each) (slice_get_within all n x at)) in
    each_next (IsComponent fs c.args.definitions.now ws) all n x c.loop-at.row _ c.in_ok-one.one at c.in_ok-push.ensures.ok (c.in_ok-one.ensures fs there.0 there.1 (lists.of n x there.0 at there.1) (whole n x at))
    (c.loop-at.invariant fs lists whole)

pub returns : goal.returns
returns c fs lists whole =
    each_all (λ k. IsComponent fs c.args.definitions.now c.args.types.now.written.now) c.args.components.now c.loop-at.at c.loop-at.row c.loop-at-test.false (c.loop-at.invariant fs lists whole)
