use Rattle.std.proofs.Common.{List, sym, subst}
use Rattle.fp_base.specs.Least.{IsLeast}
use Rattle.fp_base.proofs.Calculus.{least_along, least_either}
use Rattle.fp_written_parts.specs.declared.port.WrittenFormal.{WrittenFormal}
use Rattle.fp_dictdefs.specs.Broken.{BrokenFormals}
use Rattle.fp_dictdefs.proofs.members.command_fault.Goals as goal

pub returns : goal.returns
returns c =
    least_along (sym c.lesser.ensures)
    (least_either c.in_ok-formals.formals c.queue_fault-queue.result
    (subst (λ (ps : List WrittenFormal). IsLeast (BrokenFormals ps) c.in_ok-formals.formals) c.as_slice.ensures c.in_ok-formals.ensures) c.queue_fault-queue.ensures)
