use Rattle.fp_components.proofs.Queued.{asynchronous, internal}
use Rattle.fp_components.proofs.queues.role_of.Goals as goal

pub returns-in-AsyncInput : goal.returns-in-AsyncInput
returns-in-AsyncInput c whole = asynchronous c.args.queue c.args.role c.later.result c.in-AsyncInput.is c.later.ensures whole

pub returns-in-Internal : goal.returns-in-Internal
returns-in-Internal c whole = internal c.args.queue c.args.role c.later-in-Internal.result c.in-Internal.is c.later-in-Internal.ensures whole
