use Rattle.fp_listing.specs.Members.{running_line}
use Rattle.fp_logtext.proofs.Pushed.{one_item}
use Rattle.fp_listing.proofs.members.push_machines.Goals as goal

pub loop-running-preserved : goal.loop-running-preserved
loop-running-preserved c =
    one_item (running_line c.args.model.now) c.args.machines.now c.loop-running.running-index c.running-item.result c.loop-running-test.true c.running-item.is c.args.out.now c.loop-running.out c.push_running.new.out
    c.loop-running.invariant c.in_ok-push_running.ensures
