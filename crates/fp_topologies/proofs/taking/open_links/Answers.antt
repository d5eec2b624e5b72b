use Rattle.std.proofs.lemmas.Option.{slice_get-get_or}
use Rattle.fp_topologies.specs.Taken.{is_open}
use Rattle.fp_topologies.proofs.Hiding.{open_next}
use Rattle.fp_topologies.proofs.taking.open_links.Goals as goal

pub loop-link-preserved : goal.loop-link-preserved
loop-link-preserved c =
    let all = c.args.links.now in
    let n = c.loop-link.link-index in
    open_next (is_open c.args.hidden.now) all n _ c.loop-link.taken c.take_if_open.new.taken (slice_get-get_or all n _ c.loop-link-test.true) c.in_ok-take_if_open.ensures c.loop-link.invariant
