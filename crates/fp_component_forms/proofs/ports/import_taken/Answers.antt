use Rattle.std.proofs.Common.{ℕ, List, refl, sym, subst}
use Rattle.fp_meaning.specs.declared.group.Group.TheVariants as group
use Rattle.fp_meaning.specs.Layout.{use_items}
use Rattle.fp_meaning.specs.Names.{definitions}
use Rattle.fp_type_forms.proofs.Taking.{taken_as}
use Rattle.fp_component_forms.specs.Positions.{RanksAre}
use Rattle.fp_component_forms.proofs.ports.import_taken.Goals as goal

pub returns : goal.returns
returns c source scope marks ready =
    taken_as source marks c.args.resolutions.now (use_items group.Interface scope c.args.import.now.of) c.args.next.now c.position_taken-interface.new.next
    (λ p. record { interface = p; at = refl }) (c.position_taken-interface.ensures source marks group.Interface scope c.args.import.now.of refl (subst (λ (ns : List ℕ). RanksAre group.Interface (definitions source) ns) (sym c.as_slice.ensures) ready.interfaces))
