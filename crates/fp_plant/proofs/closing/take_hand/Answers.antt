use Rattle.fp_plant.proofs.Ending.{dealt_of}
use Rattle.fp_plant.proofs.closing.take_hand.Goals as goal

pub returns-clause-dealt : goal.returns-clause-dealt
returns-clause-dealt c =
    dealt_of c.hand.inside.passes.items c.from_vec.result c.hand.inside.actor c.args.hand c.args.columns.now.items c.deal.new.rows.items c.hand.view_is c.hand.invariant.1 c.from_vec.ensures c.requires
    c.in_ok-deal.ensures
