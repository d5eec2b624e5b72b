use Rattle.std.specs.Prelude.{codes}
use Rattle.fp_listing.specs.Listing.{instance_head, queue_size, priority_text}
use Rattle.fp_logtext.proofs.Pushed.{first, next, last}
use Rattle.fp_listing.proofs.items.push_instance.Goals as goal

pub returns : goal.returns
returns c =
    let instance = c.args.instance.now in
    let head = first c.args.out.now (instance_head c.args.model.now instance) c.in_ok-push_instance_head.ensures in
    let queue = next head (queue_size instance.queue) c.in_ok-push_queue_size.ensures in
    let priority = next queue (priority_text instance.priority) c.in_ok-push_priority.ensures in
    last priority (codes "\n") c.push_text.new.log c.push_text.result c.push_text.ensures
