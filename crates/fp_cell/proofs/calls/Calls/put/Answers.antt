use Rattle.fp_cell.proofs.calls.Calls.put.Goals as goal
use Rattle.fp_cell.proofs.Taken.{held_more}

pub invariant_of-self-in-Some-2 : goal.invariant_of-self-in-Some-2
invariant_of-self-in-Some-2 c =
    held_more c.self.inside.size c.self.inside.puts c.args.self.now c.self.inside.queue _ c.args.call c.in-Some.queue c.put.new.self c.put.result c.self.view_is c.in-Some.is
    c.put.ensures.room.1 c.put.ensures.ok c.requires.room c.requires.number c.requires.again c.self.invariant
