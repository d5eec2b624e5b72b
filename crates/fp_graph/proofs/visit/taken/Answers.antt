use Rattle.fp_graph.specs.Visits.{state_of}
use Rattle.fp_graph.proofs.Steps.{taken_is}
use Rattle.fp_graph.proofs.visit.taken.Goals as goal

pub returns : goal.returns
returns c =
    taken_is c.pop.result (state_of c.args.walk.now) c.args.walk.now.frames.items c.pop.new.self.items c.args.walk.now.frames.len c.pop.new.self.len
    c.pop.ensures.items c.pop.ensures.cases c.args.walk.now.frames.ok.0 c.pop.new.self.ok.0
