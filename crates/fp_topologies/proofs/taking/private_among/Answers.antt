use Rattle.std.proofs.Common.{◌∙◌, ap, take_all}
use Rattle.std.specs.Ordering.{nat_cmp}
use Rattle.std.specs.BTreeSet.{contains}
use Rattle.std.proofs.lemmas.Option.{slice_get-get_or}
use Rattle.fp_topologies.specs.Taken.{is_private_among}
use Rattle.fp_topologies.proofs.Hiding.{private_next}
use Rattle.fp_topologies.proofs.taking.private_among.Goals as goal

pub loop-member-preserved : goal.loop-member-preserved
loop-member-preserved c i =
    let all = c.args.members.now in
    let n = c.loop-member.member-index in
    private_next i all n _ (contains nat_cmp c.loop-member.hidden i) (contains nat_cmp c.note_private.new.hidden i) (slice_get-get_or all n _ c.loop-member-test.true) (c.in_ok-note_private.ensures i) (c.loop-member.invariant i)

pub returns : goal.returns
returns c i = c.loop-member.invariant i ∙ ap (is_private_among i) (take_all c.loop-member.member-index c.args.members.now c.loop-member-test.false)
