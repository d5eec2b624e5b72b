use Rattle.std.proofs.Common.{refl}
use Rattle.fp_meaning.specs.Layout.{limit_items}
use Rattle.fp_type_forms.proofs.Taking.{taken_as}
use Rattle.fp_component_forms.proofs.dictionary.limit_taken.Goals as goal

pub returns : goal.returns
returns c source scope =
    taken_as source c.args.marks.now c.args.resolutions.now (limit_items scope c.args.limit.now) c.args.next.now c.given_taken-value.new.next (λ v. record { side = refl; color = refl; at = refl; value = v }) (c.given_taken-value.ensures source scope)
