use Rattle.std.proofs.Common.{arith}
use Rattle.fp_reach.specs.declared.vertex.Vertex.TheVariants.{Action}
use Rattle.fp_reach.proofs.Amid.{get_among, none_next, none_at_all}
use Rattle.fp_reach.proofs.Firsts.{IsAction, no_action_at}
use Rattle.fp_reach.proofs.cycles.first_action.Goals as goal

pub loop-at-preserved : goal.loop-at-preserved
loop-at-preserved c = none_next IsAction c.args.vertices.now c.loop-at.at (omega arith) (no_action_at c.args.vertices.now c.loop-at.at c.in-None.ensures) c.loop-at.invariant

pub returns-in-Some : goal.returns-in-Some
returns-in-Some c = get_among c.args.vertices.now c.loop-at.at _ c.in-Some.ensures

pub returns : goal.returns
returns c = λ n k h. none_at_all IsAction c.args.vertices.now c.loop-at.at (omega arith) c.loop-at.invariant (Action n k) tt h
