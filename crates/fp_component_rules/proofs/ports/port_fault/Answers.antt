use Rattle.std.proofs.Common.{List, sym, subst}
use Rattle.fp_base.specs.Least.{IsLeast}
use Rattle.fp_base.proofs.Calculus.{least_along, least_either}
use Rattle.fp_written_parts.specs.declared.port.WrittenFormal.{WrittenFormal}
use Rattle.fp_component_rules.specs.PortBroken.{BrokenFormals}
use Rattle.fp_component_rules.proofs.ports.port_fault.Goals as goal

pub returns : goal.returns
returns c =
    let role = c.args.port.now.role in
    least_along (sym c.lesser.ensures)
    (least_either c.lesser-what.result c.lesser-how.result
    (least_along (sym c.lesser-what.ensures)
    (least_either c.in_ok-formals.formals c.definition_fault-definition.result
    (subst (λ (ps : List WrittenFormal). IsLeast (BrokenFormals role ps) c.in_ok-formals.formals) c.as_slice.ensures c.in_ok-formals.ensures)
    c.definition_fault-definition.ensures))
    (least_along (sym c.lesser-how.ensures)
    (least_either c.queue_fault-queue.result c.size_fault-size.result c.queue_fault-queue.ensures c.size_fault-size.ensures)))
