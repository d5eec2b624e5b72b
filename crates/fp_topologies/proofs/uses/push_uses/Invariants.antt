use Rattle.std.proofs.Common.{◌≡◌, ◌++◌, take, flat_map}
use Rattle.fp_topologies.specs.Broken.{uses_of}
use Rattle.fp_topologies.proofs.uses.push_uses.Given as goal

abbrev pub invariant-loop-pattern : goal.invariant-loop-pattern
invariant-loop-pattern l = l.used ≡ l.initial.used ++ flat_map uses_of (take l.pattern-index l.patterns)
