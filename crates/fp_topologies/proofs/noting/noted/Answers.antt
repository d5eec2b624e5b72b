use Rattle.std.specs.Ordering.{nat_cmp}
use Rattle.std.specs.BTreeSet.{contains}
use Rattle.std.proofs.lemmas.Option.{slice_get-get_or}
use Rattle.fp_topologies.proofs.MembersNoted.{At, all_noted, none_noted, number_noted}
use Rattle.fp_topologies.proofs.noting.noted.Goals as goal

pub loop-instance-init : goal.loop-instance-init
loop-instance-init c = none_noted (At c.args.held.now) (contains nat_cmp c.new-set.result) (λ i. cc)

pub loop-instance-preserved : goal.loop-instance-preserved
loop-instance-preserved c =
    let all = c.args.held.now in
    let n = c.loop-instance.instance-index in
    number_noted all n _ (contains nat_cmp c.loop-instance.set) (contains nat_cmp c.note.new.noted) (slice_get-get_or all n _ c.loop-instance-test.true) c.in_ok-note.ensures.notes c.loop-instance.invariant

pub returns : goal.returns
returns c = all_noted c.args.held.now c.loop-instance.instance-index (contains nat_cmp c.loop-instance.set) c.loop-instance-test.false c.loop-instance.invariant
