use Rattle.fp_source_types.proofs.WellMade.{well_written}
use Rattle.fp_source_types.proofs.laws.unbroken_types_are_sound.Goals as goal

pub returns : goal.returns
returns c source types once unbroken of =
    c.given_types_are_sound.ensures of.written types (well_written source types once unbroken of c.default_has_form.ensures.size) of.types
