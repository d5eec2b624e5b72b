use Rattle.fp_type_formats.proofs.Unfit.{event_least}
use Rattle.fp_type_formats.proofs.components.event_fault.Goals as goal

pub returns : goal.returns
returns c is found =
    event_least is c.args.scope.now c.args.event.now c.first_broken.result c.in_ok-unfit.unfit c.as_slice-2.result.now c.as_slice.result.now c.as_slice.ensures c.as_slice-2.ensures
    (c.in_ok-unfit.ensures is found) c.first_broken.ensures
