use Rattle.std.proofs.Common.{◌++◌, List, subst, take_all}
use Rattle.std.proofs.lemmas.Option.{slice_get-get_or}
use Rattle.fp_tables.specs.declared.topology.Link.{Link}
use Rattle.fp_topologies.specs.Ends.{HasPorts}
use Rattle.fp_topologies.proofs.NotingSteps.{noted_next, noted_none}
use Rattle.fp_topologies.proofs.ends.note_all.Goals as goal

pub loop-link-init : goal.loop-link-init
loop-link-init c there has = noted_none c.args.noted.now there has

pub loop-link-preserved : goal.loop-link-preserved
loop-link-preserved c there has =
    let all = c.args.links.now in
    let n = c.loop-link.link-index in
    noted_next c.loop-link.noted c.note.new.noted there all n _ (slice_get-get_or all n _ c.loop-link-test.true) c.in_ok-note.ensures.notes (c.loop-link.invariant there has)

pub returns : goal.returns
returns c there has =
    subst (λ (xs : List Link). HasPorts c.loop-link.noted (there ++ xs)) (take_all c.loop-link.link-index c.args.links.now c.loop-link-test.false) (c.loop-link.invariant there has)
