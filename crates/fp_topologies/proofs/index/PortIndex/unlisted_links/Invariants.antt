use Rattle.std.proofs.Common.{◌≡◌, flat_map, filter, take}
use Rattle.fp_topologies.specs.Patterns.{is_target, links_by}
use Rattle.fp_topologies.proofs.index.PortIndex.unlisted_links.Given as goal

abbrev pub invariant-loop-target : goal.invariant-loop-target
invariant-loop-target l = l.links ≡ flat_map (links_by l.self.ports l.self.components l.self.instances l.pattern l.joins) (filter (is_target l.self.ports l.self.components l.self.instances l.pattern) (take l.target-index l.held))
