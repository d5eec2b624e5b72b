use Rattle.std.proofs.Common.{List, sym, subst}
use Rattle.fp_base.proofs.Calculus.{least_along, least_either}
use Rattle.fp_component_rules.specs.declared.gift.Gift.{Gift}
use Rattle.fp_component_rules.specs.Gifts.{AreGifts}
use Rattle.fp_component_rules.proofs.faults.component_faults.Goals as goal

pub returns : goal.returns
returns c =
    let fs = c.args.interfaces.now in
    least_along (sym c.lesser-2.ensures)
    (least_either c.in_ok-cycle.cycle c.lesser.result c.in_ok-cycle.ensures
    (least_along (sym c.lesser.ensures)
    (least_either c.in_ok-of_interfaces.of_interfaces c.in_ok-of_components.of_components
    (c.in_ok-of_interfaces.ensures (subst (λ (gs : List Gift). AreGifts fs gs) (sym c.as_slice.ensures.value) c.in_ok-gifts.ensures) c.requires.within)
    (c.in_ok-of_components.ensures fs (subst (λ (gs : List Gift). AreGifts fs gs) (sym c.as_slice-2.ensures.value) c.in_ok-gifts.ensures) c.requires.imports))))
