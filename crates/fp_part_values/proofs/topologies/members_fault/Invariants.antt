use Rattle.std.proofs.Common.{[]}
use Rattle.fp_tree.specs.declared.source.Source.{Source}
use Rattle.fp_meaning.specs.Names.{Path}
use Rattle.fp_meaning.specs.Layout.{topology_member_items}
use Rattle.fp_part_values.specs.Numbers.{topology_member_numbers}
use Rattle.fp_part_values.proofs.Looping.{FaultsFirst}
use Rattle.fp_part_values.proofs.topologies.members_fault.Given as goal

abbrev pub invariant-loop-member : goal.invariant-loop-member
invariant-loop-member l = (source : Source) (scope : Path) → FaultsFirst (topology_member_items scope) (λ x. []) topology_member_numbers source l.marks l.resolutions scope l.members l.member-index l.initial.next l.next l.first
