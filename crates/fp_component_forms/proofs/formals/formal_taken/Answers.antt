use Rattle.std.proofs.Common.{refl}
use Rattle.fp_meaning.specs.Layout.{formal_items}
use Rattle.fp_type_forms.proofs.Taking.{taken_as}
use Rattle.fp_component_forms.proofs.formals.formal_taken.Goals as goal

pub returns : goal.returns
returns c source scope =
    taken_as source c.args.marks.now c.args.resolutions.now (formal_items scope c.args.formal.now) c.args.next.now c.type_taken-kind.new.next
    (λ k has. record { name = c.in_ok-name.ensures; at = refl; kind = k has; by_ref = refl; note = c.in_ok-note.ensures }) (c.type_taken-kind.ensures source scope)
