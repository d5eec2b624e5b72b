use Rattle.fp_tree.specs.declared.source.Source.{Source}
use Rattle.fp_meaning.specs.Layout.{own_items}
use Rattle.fp_meaning.specs.Names.{Path}
use Rattle.fp_type_forms.proofs.Breaking.{LeastFirst}
use Rattle.fp_part_values.specs.Broken.{BrokenByPart}
use Rattle.fp_part_values.proofs.parts.parts_fault.Given as goal

abbrev pub invariant-loop-part : goal.invariant-loop-part
invariant-loop-part l =
    (source : Source) (scope : Path) → LeastFirst (λ k. BrokenByPart source l.types scope) (λ k. own_items scope) source l.marks l.resolutions l.parts l.part-index l.initial.next l.next l.first
