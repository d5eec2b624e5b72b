use Rattle.std.proofs.Common.{ℕ}
use Rattle.std.specs.Ordering.{nat_cmp}
use Rattle.std.specs.BTreeSet.{contains}
use Rattle.std.proofs.lemmas.Option.{slice_get-get_or}
use Rattle.fp_base.proofs.Elements.{least_first_none, least_of_all}
use Rattle.fp_topologies.specs.MemberBroken.{LackingAt}
use Rattle.fp_topologies.proofs.MembersNoted.{lacking_next}
use Rattle.fp_topologies.proofs.members_broken.lacking_fault.Goals as goal

pub loop-one-init : goal.loop-one-init
loop-one-init c list are = least_first_none (λ (k : ℕ). LackingAt list) c.args.used.now

pub loop-one-preserved : goal.loop-one-preserved
loop-one-preserved c list are =
    let all = c.args.used.now in
    let n = c.loop-one.one-index in
    lacking_next list all (contains nat_cmp c.args.held.now) n _ c.loop-one.first c.lesser-first.result c.refusal_if-fault.result c.contains-lacks.result (slice_get-get_or all n _ c.loop-one-test.true) c.lesser-first.ensures
    c.contains-lacks.ensures c.refusal_if-fault.ensures are (c.loop-one.invariant list are)

pub returns : goal.returns
returns c list are = least_of_all (λ (k : ℕ). LackingAt list) c.args.used.now c.loop-one.one-index c.loop-one.first c.loop-one-test.false (c.loop-one.invariant list are)
