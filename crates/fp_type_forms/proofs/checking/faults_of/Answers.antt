use Rattle.std.proofs.Common.{sym}
use Rattle.fp_base.proofs.Calculus.{least_along, least_either}
use Rattle.fp_type_forms.proofs.checking.faults_of.Goals as goal

pub returns : goal.returns
returns c source laid h =
    least_along (sym c.lesser.ensures) (least_either c.faults_among-parts.result c.in_ok-repeats.repeats (c.faults_among-parts.ensures source laid h) (c.in_ok-repeats.ensures source laid h))
