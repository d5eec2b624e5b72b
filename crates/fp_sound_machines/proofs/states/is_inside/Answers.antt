use Rattle.std.proofs.Common.{◌∙◌, length}
use Rattle.fp_sound_machines.proofs.Nesting.{inside_on}
use Rattle.fp_sound_machines.proofs.states.is_inside.Goals as goal

pub loop-preserved : goal.loop-preserved
loop-preserved c = c.loop.invariant ∙ inside_on _ _ c.args.state (length c.args.vertices.now) c.loop.counter c.in-Some.parent c.loop-test.true c.in-Some.ensures c.if-parent-state.false
