use Rattle.std.proofs.Common.{sym}
use Rattle.fp_base.proofs.Calculus.{least_along, least_either}
use Rattle.fp_source_types.proofs.typing.wholes_broken.Goals as goal

pub returns : goal.returns
returns c =
    least_along (sym c.lesser.ensures)
    (least_either c.in_ok-chains.chains c.lesser-of_values.result c.in_ok-chains.ensures
    (least_along (sym c.lesser-of_values.ensures) (least_either c.in_ok-large.large c.in_ok-unfit.unfit c.in_ok-large.ensures c.in_ok-unfit.ensures)))
