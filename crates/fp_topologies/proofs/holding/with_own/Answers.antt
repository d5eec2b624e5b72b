use Rattle.std.proofs.Common.{◌+◌, ◌++◌, List, take, subst}
use Rattle.std.proofs.lemmas.List.{take_all}
use Rattle.std.proofs.lemmas.Option.{slice_get-get_or}
use Rattle.fp_base.proofs.Mapped.{mapped_next}
use Rattle.fp_written_parts.specs.declared.topology.MemberInstance.{MemberInstance}
use Rattle.fp_topologies.specs.ImportFirsts.{AreFirsts}
use Rattle.fp_topologies.specs.Held.{instances_of}
use Rattle.fp_topologies.proofs.ImportNoting.{none_more, some_more}
use Rattle.fp_topologies.proofs.holding.with_own.Goals as goal

pub loop-member-init : goal.loop-member-init
loop-member-init c all before = none_more all c.args.firsts before

pub loop-member-preserved : goal.loop-member-preserved
loop-member-preserved c all before =
    let xs = c.args.members.now in
    let n = c.loop-member.member-index in
    some_more all (instances_of (take n xs)) _ (instances_of (take (n + 1) xs)) c.in_ok-after.after
    (mapped_next (λ (m : MemberInstance). m.used.instance) xs n _ (slice_get-get_or xs n _ c.loop-member-test.true))
    (c.in_ok-after.ensures (all ++ instances_of (take n xs)) (c.loop-member.invariant all before))

pub returns : goal.returns
returns c all before =
    subst (λ (ms : List MemberInstance). AreFirsts (all ++ instances_of ms) c.loop-member.after) (take_all c.loop-member.member-index c.args.members.now c.loop-member-test.false)
    (c.loop-member.invariant all before)
