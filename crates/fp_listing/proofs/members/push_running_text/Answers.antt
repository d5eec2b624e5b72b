use Rattle.std.specs.Prelude.{codes}
use Rattle.fp_listing.specs.Kinds.{queue_text}
use Rattle.fp_listing.specs.Members.{machine_name}
use Rattle.fp_logtext.proofs.Pushed.{first, next, same, last}
use Rattle.fp_listing.proofs.members.push_running_text.Goals as goal

pub returns : goal.returns
returns c =
    let running = c.args.running.now in
    let state = first c.args.out.now (codes "state ") c.in_ok-push_text.ensures in
    let machine = next state (codes "machine ") c.in_ok-push_text-2.ensures in
    let instance = next machine (codes "instance ") c.in_ok-push_text-3.ensures in
    let name = same instance running.name c.as_str.ensures c.in_ok-push_text-4.ensures in
    let colon = next name (codes ": ") c.in_ok-push_text-5.ensures in
    let kind = next colon (machine_name c.args.model.now running.machine) c.in_ok-push_machine_name.ensures in
    last kind (queue_text running.way) c.push_queueing.new.out c.push_queueing.result c.push_queueing.ensures
