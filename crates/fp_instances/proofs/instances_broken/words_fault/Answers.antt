use Rattle.std.proofs.Common.{sym}
use Rattle.fp_base.specs.declared.rule.Rule.TheVariants.{ForActiveAlone, QueueSize}
use Rattle.fp_base.specs.Least.{broken_at}
use Rattle.fp_base.proofs.Calculus.{least_along, least_either, least_told}
use Rattle.fp_instances.specs.InstanceBroken.{HasWordsOfActive, IsQueueWrong}
use Rattle.fp_instances.proofs.instances_broken.words_fault.Goals as goal

pub returns : goal.returns
returns c =
    let i = c.args.instance.now in
    least_along (sym c.lesser.ensures)
    (least_either c.refusal_if-queue.result c.refusal_if-active.result
    (least_told (IsQueueWrong i.queueing i.queue) c.is_queue_wrong-wrong.result (broken_at QueueSize i.at) c.refusal_if-queue.result c.is_queue_wrong-wrong.ensures c.refusal_if-queue.ensures)
    (least_told (HasWordsOfActive i.queueing i) c.has_words_of_active-others.result (broken_at ForActiveAlone i.at) c.refusal_if-active.result c.has_words_of_active-others.ensures c.refusal_if-active.ensures))
