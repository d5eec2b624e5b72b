use Rattle.fp_tree.specs.declared.source.Source.{Source}
use Rattle.fp_tree.specs.declared.machine.BehaviorElement.{BehaviorElement}
use Rattle.fp_meaning.specs.Layout.{element_items}
use Rattle.fp_meaning.specs.Names.{Path}
use Rattle.fp_component_forms.proofs.Lists.{EachIs, ReadsFirst}
use Rattle.fp_source_parts.specs.DeclaredElements.{Declares}
use Rattle.fp_source_parts.proofs.kinds.kinds_taken.Given as goal

abbrev pub invariant-loop-element : goal.invariant-loop-element
invariant-loop-element l =
    (source : Source) (scope : Path)
    → ReadsFirst (EachIs (Declares source scope)) (λ (e : BehaviorElement). Unit {0}) (element_items scope) source l.marks l.resolutions l.elements l.element-index l.initial.next l.next l.kinds
