use Rattle.fp_source_parts.proofs.Assembling.{fault_least}
use Rattle.fp_source_parts.proofs.parts.parts_fault.Goals as goal

pub returns : goal.returns
returns c =
    fault_least c.args.types.now c.args.written.now c.as_slice-definitions.result.now c.as_slice-interfaces.result.now c.as_slice-components.result.now c.in_ok-of_ports.of_ports
    c.in_ok-of_dictionaries.of_dictionaries c.in_ok-of_wholes.of_wholes c.lesser-behind.result c.lesser.result c.as_slice-definitions.ensures c.as_slice-interfaces.ensures
    c.as_slice-components.ensures c.in_ok-of_ports.ensures c.in_ok-of_dictionaries.ensures c.in_ok-of_wholes.ensures c.lesser-behind.ensures c.lesser.ensures
