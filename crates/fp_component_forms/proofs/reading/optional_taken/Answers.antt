use Rattle.fp_meaning.specs.Layout.{expression_items}
use Rattle.fp_component_forms.specs.Written.{GivenIs}
use Rattle.fp_component_forms.proofs.Readers.{taken_with, taken_without}
use Rattle.fp_component_forms.proofs.reading.optional_taken.Goals as goal

pub returns-in-Some : goal.returns-in-Some
returns-in-Some c source scope =
    taken_with source c.args.marks.now c.args.resolutions.now (expression_items 0 scope) (GivenIs source scope) c.args.expression.now _ c.given_taken.result c.args.next.now c.given_taken.new.next c.in-Some.is (c.given_taken.ensures source scope)

pub returns-in-None : goal.returns-in-None
returns-in-None c source scope =
    taken_without source c.args.marks.now c.args.resolutions.now (expression_items 0 scope) (GivenIs source scope) c.args.expression.now c.args.next.now c.in-None.is
