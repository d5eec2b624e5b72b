use Rattle.fp_tree.specs.declared.source.Source.{Source}
use Rattle.fp_meaning.specs.Layout.{topology_member_items}
use Rattle.fp_meaning.specs.Names.{Path}
use Rattle.fp_topology_forms.specs.Taken.{AreRanks, MembersAre}
use Rattle.fp_topology_forms.proofs.Growing.{GrownFirst}
use Rattle.fp_topology_forms.proofs.members.members_taken.Given as goal

abbrev pub invariant-loop-member : goal.invariant-loop-member
invariant-loop-member l =
    (source : Source) (scope : Path) → AreRanks source l.ranks
    → GrownFirst (MembersAre source scope) (topology_member_items scope) source l.marks l.resolutions l.members l.member-index l.initial.next l.next l.found
