use Rattle.std.proofs.Common.{◌≡◌, ◌++◌, drop}
use Rattle.fp_reach.specs.Vertices.{handlers_from}
use Rattle.fp_reach.proofs.edges.edges_of.Given as goal

abbrev pub invariant-loop-number : goal.invariant-loop-number
invariant-loop-number l = l.edges ++ handlers_from l.tables l.with_guards l.number (drop l.number l.handlers) ≡ handlers_from l.tables l.with_guards 0 l.handlers
