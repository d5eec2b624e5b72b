use Rattle.std.specs.Ordering.{nat_cmp}
use Rattle.std.specs.BTreeSet.{contains}
use Rattle.std.proofs.lemmas.Option.{slice_get-get_or}
use Rattle.fp_topologies.proofs.MembersNoted.{repeated_all, repeated_next, repeated_none}
use Rattle.fp_topologies.proofs.members_broken.repeated_fault.Goals as goal

pub loop-used-init : goal.loop-used-init
loop-used-init c = repeated_none c.args.own.now (contains nat_cmp c.new-seen.result) (λ i. cc)

pub loop-used-preserved : goal.loop-used-preserved
loop-used-preserved c =
    let all = c.args.own.now in
    let n = c.loop-used.used-index in
    repeated_next all n _ c.loop-used.first c.lesser-first.result c.refusal_if-fault.result c.in_ok-new.new (contains nat_cmp c.loop-used.seen) (contains nat_cmp c.note.new.noted) (slice_get-get_or all n _ c.loop-used-test.true)
    c.lesser-first.ensures c.refusal_if-fault.ensures c.in_ok-new.ensures.fresh c.in_ok-new.ensures.notes c.loop-used.invariant

pub returns : goal.returns
returns c = repeated_all c.args.own.now c.loop-used.used-index c.loop-used.first (contains nat_cmp c.loop-used.seen) c.loop-used-test.false c.loop-used.invariant
