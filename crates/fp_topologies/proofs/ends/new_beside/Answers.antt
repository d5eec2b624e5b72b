use Rattle.std.proofs.Common.{subst, sym}
use Rattle.std.proofs.lemmas.Option.{slice_get-get_or}
use Rattle.fp_topologies.specs.Ends.{AreTaken}
use Rattle.fp_topologies.proofs.NotingSteps.{taken_all, taken_none}
use Rattle.fp_topologies.proofs.ends.new_beside.Goals as goal

pub loop-link-init : goal.loop-link-init
loop-link-init c there has =
    subst (AreTaken there c.args.links.now 0 c.args.noted.now) (sym c.new-taken.ensures) (taken_none there c.args.links.now c.args.noted.now has)

pub loop-link-preserved : goal.loop-link-preserved
loop-link-preserved c there has =
    let all = c.args.links.now in
    let n = c.loop-link.link-index in
    c.in_ok-take_if_new.ensures there all n (slice_get-get_or all n _ c.loop-link-test.true) (c.loop-link.invariant there has)

pub returns : goal.returns
returns c there has = taken_all there c.args.links.now c.loop-link.link-index c.loop-link.noted c.loop-link.taken c.loop-link-test.false (c.loop-link.invariant there has)
