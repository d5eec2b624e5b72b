use Rattle.std.proofs.Common.{◌≡◌, ◌++◌, flat_map, take}
use Rattle.fp_meaning.specs.Layout.{target_items}
use Rattle.fp_layout.proofs.topologies.of_targets.Given as goal

abbrev pub invariant-loop-target : goal.invariant-loop-target
invariant-loop-target l = l.found ≡ l.initial.found ++ flat_map (target_items l.scope) (take l.target-index l.targets)
