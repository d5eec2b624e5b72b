use Rattle.fp_tree.specs.declared.source.Source.{Source}
use Rattle.fp_meaning.specs.Names.{Path}
use Rattle.fp_meaning.specs.Layout.{own_items}
use Rattle.fp_part_values.specs.Names.{part_names}
use Rattle.fp_part_values.specs.Numbers.{part_numbers}
use Rattle.fp_part_values.proofs.Looping.{FaultsFirst}
use Rattle.fp_part_values.proofs.components.parts_fault.Given as goal

abbrev pub invariant-loop-part : goal.invariant-loop-part
invariant-loop-part l = (source : Source) (scope : Path) → FaultsFirst (own_items scope) part_names part_numbers source l.marks l.resolutions scope l.parts l.part-index l.initial.next l.next l.first
