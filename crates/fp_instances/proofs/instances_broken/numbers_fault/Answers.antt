use Rattle.std.proofs.Common.{sym}
use Rattle.fp_base.proofs.Calculus.{least_along, least_either}
use Rattle.fp_instances.proofs.instances_broken.numbers_fault.Goals as goal

pub returns : goal.returns
returns c =
    least_along (sym c.lesser.ensures)
    (least_either c.base_fault-base.result c.lesser-others.result c.base_fault-base.ensures
    (least_along (sym c.lesser-others.ensures)
    (least_either c.lesser-sizes.result c.lesser-thread.result
    (least_along (sym c.lesser-sizes.ensures) (least_either c.number_fault-queue.result c.number_fault-stack.result c.number_fault-queue.ensures c.number_fault-stack.ensures))
    (least_along (sym c.lesser-thread.ensures) (least_either c.number_fault-priority.result c.number_fault-cpu.result c.number_fault-priority.ensures c.number_fault-cpu.ensures)))))
