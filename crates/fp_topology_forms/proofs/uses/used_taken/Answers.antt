use Rattle.std.proofs.Common.{ℕ, List, refl, sym, subst}
use Rattle.fp_meaning.specs.declared.group.Group.TheVariants as group
use Rattle.fp_meaning.specs.Layout.{use_items}
use Rattle.fp_meaning.specs.Names.{definitions}
use Rattle.fp_type_forms.proofs.Taking.{taken_as}
use Rattle.fp_component_forms.specs.Positions.{RanksAre}
use Rattle.fp_topology_forms.proofs.uses.used_taken.Goals as goal

pub returns : goal.returns
returns c source marks scope name ready at =
    taken_as source marks c.args.resolutions.now (use_items group.Instance scope name) c.args.next.now c.position_taken-instance.new.next
    (λ p. record { at = at; instance = p })
    (c.position_taken-instance.ensures source marks group.Instance scope name refl (subst (λ (ns : List ℕ). RanksAre group.Instance (definitions source) ns) (sym c.as_slice.ensures) ready.instances))
