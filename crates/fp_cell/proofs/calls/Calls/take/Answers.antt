use Rattle.fp_cell.proofs.calls.Calls.take.Goals as goal
use Rattle.fp_cell.proofs.Taken.{taken, held_rest}

pub invariant_of-self-2 : goal.invariant_of-self-2
invariant_of-self-2 c =
    held_rest c.self.inside.size c.self.inside.puts c.self.inside.queue c.in-Some.queue c.take.new.self c.in-Some.is c.take.ensures.rest c.self.invariant

pub returns-clause-next : goal.returns-clause-next
returns-clause-next c =
    taken c.self.inside.size c.self.inside.puts c.args.self.now c.self.inside.queue c.in-Some.queue c.take.new.self c.take.result c.self.view_is c.in-Some.is c.take.ensures.item
    c.take.ensures.rest c.self.invariant
