use Rattle.std.proofs.Common.{sym}
use Rattle.fp_base.proofs.Calculus.{least_along, least_either}
use Rattle.fp_component_rules.proofs.ports_broken.port_faults.Goals as goal

pub returns : goal.returns
returns c =
    least_along (sym c.lesser.ensures)
    (least_either c.in_ok-of_definitions.of_definitions c.lesser-of_members.result c.in_ok-of_definitions.ensures
    (least_along (sym c.lesser-of_members.ensures)
    (least_either c.in_ok-of_interfaces.of_interfaces c.in_ok-of_components.of_components c.in_ok-of_interfaces.ensures c.in_ok-of_components.ensures)))
