use Rattle.fp_base.proofs.Lists.{get_last}
use Rattle.fp_machine_flat.proofs.Laid.{laid}
use Rattle.fp_machine_flat.proofs.Standing.{grows_on, grows_more}
use Rattle.fp_machine_flat.proofs.flattening.flatten.Goals as goal

pub invariant_of-result : goal.invariant_of-result
invariant_of-result c =
    rw c.of.ensures
    (laid c.args.machine.now c.requires c.in_ok-nodes.nodes c.counting_of_leaves.new.nodes c.in_ok-start.start c.in_ok-counting.counting c.in_ok-nodes.ensures.0 c.in_ok-nodes.ensures.1
    c.in_ok-start.ensures.place
    (c.in_ok-counting.ensures.grows _ _ (rw (c.in_ok-start.ensures.nodes, c.in_ok-start.ensures.place, c.in_ok-starting.ensures) (get_last c.in_ok-nodes.nodes _)))
    (grows_on c.in_ok-nodes.nodes c.add.new.nodes c.counting_of_leaves.new.nodes (grows_more c.in_ok-nodes.nodes c.in_ok-nodes.nodes c.add.new.nodes _ (λ k n e. e) c.in_ok-start.ensures.nodes)
    c.in_ok-counting.ensures.grows)
    c.in_ok-counting.ensures.stand)
