use Rattle.std.proofs.Common.{◌≡◌, is_some, take}
use Rattle.std.specs.List.{list_all}
use Rattle.fp_topologies.specs.Patterns.{other, only_port}
use Rattle.fp_topologies.specs.declared.sorts.Join.{Join}
use Rattle.fp_topologies.proofs.index.PortIndex.has_each_other.Given as goal

abbrev pub invariant-loop-join : goal.invariant-loop-join
invariant-loop-join l = l.each ≡ list_all (λ (j : Join). is_some (only_port l.self.ports l.self.components l.self.instances (other j) l.instance)) (take l.join-index l.joins)
