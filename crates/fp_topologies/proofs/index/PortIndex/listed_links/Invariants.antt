use Rattle.std.proofs.Common.{◌≡◌, flat_map, take}
use Rattle.fp_written_parts.specs.declared.topology.UsedInstance.{UsedInstance}
use Rattle.fp_topologies.specs.Patterns.{links_by}
use Rattle.fp_topologies.proofs.index.PortIndex.listed_links.Given as goal

abbrev pub invariant-loop-target : goal.invariant-loop-target
invariant-loop-target l = l.links ≡ flat_map (λ (u : UsedInstance). links_by l.self.ports l.self.components l.self.instances l.pattern l.joins u.instance) (take l.target-index l.targets)
