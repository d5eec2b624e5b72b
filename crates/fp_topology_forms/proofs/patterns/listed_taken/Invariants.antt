use Rattle.std.specs.Prelude.{List, Option}
use Rattle.fp_component_forms.proofs.Lists.{EachIs}
use Rattle.fp_base.specs.declared.value.Value.{Value}
use Rattle.fp_tree.specs.declared.source.Source.{Source}
use Rattle.fp_meaning.specs.Layout.{target_items}
use Rattle.fp_meaning.specs.Names.{Path}
use Rattle.fp_topology_forms.specs.Taken.{AreRanks}
use Rattle.fp_topology_forms.specs.Written.{TargetIs}
use Rattle.fp_topology_forms.proofs.Growing.{GrownFirst}
use Rattle.fp_topology_forms.proofs.patterns.listed_taken.Given as goal

abbrev pub invariant-loop-target : goal.invariant-loop-target
invariant-loop-target l =
    (source : Source) (scope : Path) (marks : List (Option Value)) → AreRanks source l.ranks
    → GrownFirst (EachIs (TargetIs source scope)) (target_items scope) source marks l.resolutions l.targets l.target-index l.initial.next l.next l.row
