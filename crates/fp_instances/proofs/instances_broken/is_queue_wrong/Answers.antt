use Rattle.std.proofs.Common.{◌≡◌, ◌↔◌, true, sym, subst}
use Rattle.fp_base.proofs.Options.{none_told}
use Rattle.fp_tables.specs.declared.component.Queueing.{Queueing}
use Rattle.fp_instances.specs.InstanceBroken.{IsQueueWrong}
use Rattle.fp_instances.proofs.instances_broken.is_queue_wrong.Goals as goal

pub returns-in-Active : goal.returns-in-Active
returns-in-Active c =
    let wrong = c.is_none.result in
    subst (λ (q : Queueing). (wrong ≡ true) ↔ IsQueueWrong q c.args.queue) (sym c.in-Active.is) (none_told c.args.queue wrong c.is_none.ensures)

pub returns-in-Queued : goal.returns-in-Queued
returns-in-Queued c =
    let wrong = c.is_none-in-Queued.result in
    subst (λ (q : Queueing). (wrong ≡ true) ↔ IsQueueWrong q c.args.queue) (sym c.in-Queued.is) (none_told c.args.queue wrong c.is_none-in-Queued.ensures)
