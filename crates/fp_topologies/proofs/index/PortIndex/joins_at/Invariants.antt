use Rattle.std.proofs.Common.{◌≡◌, take}
use Rattle.std.specs.Prelude.{filter_map}
use Rattle.fp_topologies.specs.Patterns.{join_at}
use Rattle.fp_topologies.proofs.index.PortIndex.joins_at.Given as goal

abbrev pub invariant-loop-join : goal.invariant-loop-join
invariant-loop-join l = l.there ≡ filter_map (join_at l.self.ports l.self.components l.self.instances l.instance) (take l.join-index l.joins)
