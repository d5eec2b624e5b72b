use Rattle.std.proofs.Common.{arith}
use Rattle.fp_graph.proofs.depths.deepest.Goals as goal

pub returns : goal.returns
returns c = record {
  bound = λ at u. c.loop-at.invariant.bound at u.0 (omega (arith, u.1));
  reached = λ h. let t = c.loop-at.invariant.reached h in (t.0, (t.1, t.2), t.3);
}
