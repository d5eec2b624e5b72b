use Rattle.std.proofs.Common.{◌≡◌, Some, length, slice_get, refl}
use Rattle.std.proofs.lemmas.Option.{slice_get_read}
use Rattle.fp_part_values.specs.Phases.{BrokenByPhase}
use Rattle.fp_part_values.proofs.Folding.{least_next, least_of_all, least_start}
use Rattle.fp_part_values.proofs.phases.phases_fault.Goals as goal

pub loop-phase-init : goal.loop-phase-init
loop-phase-init c = least_start BrokenByPhase c.args.phases.now

pub loop-phase-preserved : goal.loop-phase-preserved
loop-phase-preserved c =
    let all = c.args.phases.now in
    let n = c.loop-phase.phase-index in
    let item = c.phase-item.result in
    let at : slice_get all n ≡ Some item = slice_get_read all (length all) n item refl c.loop-phase-test.true c.phase-item.is in
    least_next BrokenByPhase all n item c.loop-phase.first c.lesser-first.result c.expression_fault-of_phase.result at c.lesser-first.ensures c.expression_fault-of_phase.ensures c.loop-phase.invariant

pub returns : goal.returns
returns c = least_of_all BrokenByPhase c.args.phases.now c.loop-phase.phase-index c.loop-phase.first c.loop-phase-test.false c.loop-phase.invariant
