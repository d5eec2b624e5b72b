use Rattle.std.proofs.Common.{◌≡◌, flat_map, take}
use Rattle.fp_topologies.specs.Patterns.{pattern_links}
use Rattle.fp_topologies.proofs.joining.links_of_all.Given as goal

abbrev pub invariant-loop-pattern : goal.invariant-loop-pattern
invariant-loop-pattern l = l.links ≡ flat_map (pattern_links l.index.ports l.index.components l.index.instances l.held) (take l.pattern-index l.patterns)
