use Rattle.std.proofs.Common.{refl}
use Rattle.fp_meaning.specs.Layout.{expression_items}
use Rattle.fp_type_forms.proofs.Taking.{taken_as}
use Rattle.fp_component_forms.proofs.reading.given_taken.Goals as goal

pub returns : goal.returns
returns c source scope =
    taken_as source c.args.marks.now c.args.resolutions.now (expression_items 0 scope c.args.expression.now) c.args.next.now c.number_taken-number.new.next (λ only. record { number = only; at = refl })
    (c.number_taken-number.ensures.takes source scope 0 c.args.expression.now)
