use Rattle.fp_meaning.specs.Layout.{use_items}
use Rattle.fp_component_forms.specs.Written.{PositionIs}
use Rattle.fp_component_forms.proofs.Readers.{taken_with, taken_without}
use Rattle.fp_component_forms.proofs.reading.optional_position.Goals as goal

pub returns-in-Some : goal.returns-in-Some
returns-in-Some c source marks g scope other ranked =
    taken_with source marks c.args.resolutions.now (use_items g scope) (PositionIs source scope g) c.args.name.now _ c.position_taken.result c.args.next.now c.position_taken.new.next c.in-Some.is
    (c.position_taken.ensures source marks g scope c.in-Some.field-0 other ranked)

pub returns-in-None : goal.returns-in-None
returns-in-None c source marks g scope other ranked =
    taken_without source marks c.args.resolutions.now (use_items g scope) (PositionIs source scope g) c.args.name.now c.args.next.now c.in-None.is
