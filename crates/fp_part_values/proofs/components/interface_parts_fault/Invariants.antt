use Rattle.std.proofs.Common.{[]}
use Rattle.fp_tree.specs.declared.source.Source.{Source}
use Rattle.fp_meaning.specs.Names.{Path}
use Rattle.fp_meaning.specs.Layout.{interface_part_items}
use Rattle.fp_part_values.specs.Numbers.{interface_part_numbers}
use Rattle.fp_part_values.proofs.Looping.{FaultsFirst}
use Rattle.fp_part_values.proofs.components.interface_parts_fault.Given as goal

abbrev pub invariant-loop-part : goal.invariant-loop-part
invariant-loop-part l = (source : Source) (scope : Path) → FaultsFirst (interface_part_items scope) (λ x. []) interface_part_numbers source l.marks l.resolutions scope l.parts l.part-index l.initial.next l.next l.first
