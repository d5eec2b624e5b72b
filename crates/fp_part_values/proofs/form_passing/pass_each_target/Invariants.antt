use Rattle.std.proofs.Common.{List, Option}
use Rattle.fp_tree.specs.declared.source.Source.{Source}
use Rattle.fp_meaning.specs.Names.{Path}
use Rattle.fp_meaning.specs.Layout.{target_items}
use Rattle.fp_part_values.proofs.Looping.{PassesFirst}
use Rattle.fp_base.specs.declared.value.Value.{Value}
use Rattle.fp_part_values.proofs.form_passing.pass_each_target.Given as goal

abbrev pub invariant-loop-target : goal.invariant-loop-target
invariant-loop-target l = (source : Source) (marks : List (Option Value)) (scope : Path) → PassesFirst (target_items scope) source marks l.resolutions l.targets l._target-index l.initial.next l.next
