use Rattle.std.proofs.Common.{[]}
use Rattle.fp_tree.specs.declared.source.Source.{Source}
use Rattle.fp_meaning.specs.Names.{Path}
use Rattle.fp_meaning.specs.Layout.{element_items}
use Rattle.fp_part_values.specs.Names.{element_names}
use Rattle.fp_part_values.proofs.Looping.{FaultsFirst}
use Rattle.fp_part_values.proofs.machines.elements_fault.Given as goal

abbrev pub invariant-loop-element : goal.invariant-loop-element
invariant-loop-element l = (source : Source) (scope : Path) → FaultsFirst (element_items scope) element_names (λ x. []) source l.marks l.resolutions scope l.elements l.element-index l.initial.next l.next l.first
