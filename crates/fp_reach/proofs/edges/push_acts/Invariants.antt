use Rattle.std.proofs.Common.{◌≡◌, ◌++◌, drop}
use Rattle.fp_reach.specs.Vertices.{acts_from}
use Rattle.fp_reach.proofs.edges.push_acts.Given as goal

abbrev pub invariant-loop-at : goal.invariant-loop-at
invariant-loop-at l =
    l.edges ++ acts_from l.tables l.with_guards l.number l.handler l.at (drop l.at l.acts) ≡ l.initial.edges ++ acts_from l.tables l.with_guards l.number l.handler 0 l.acts
