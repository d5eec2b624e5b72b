use Rattle.std.proofs.Common.{◌≡◌, ◌++◌, take}
use Rattle.std.specs.Prelude.{filter_map}
use Rattle.fp_topologies.specs.Patterns.{joined_by}
use Rattle.fp_topologies.proofs.index.PortIndex.push_joined.Given as goal

abbrev pub invariant-loop-join : goal.invariant-loop-join
invariant-loop-join l = l.links ≡ l.initial.links ++ filter_map (joined_by l.self.ports l.self.components l.self.instances l.pattern l.target) (take l.join-index l.joins)
