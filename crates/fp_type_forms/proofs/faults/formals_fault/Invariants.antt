use Rattle.fp_tree.specs.declared.part.Formal.{Formal}
use Rattle.fp_meaning.specs.Layout.{formal_items}
use Rattle.fp_type_forms.specs.Broken.{BrokenByName}
use Rattle.fp_type_forms.proofs.Breaking.{LeastFirst}
use Rattle.fp_tree.specs.declared.source.Source.{Source}
use Rattle.fp_meaning.specs.Names.{Path}
use Rattle.fp_type_forms.proofs.faults.formals_fault.Given as goal

abbrev pub invariant-loop-formal : goal.invariant-loop-formal
invariant-loop-formal l =
    (source : Source) (scope : Path) → LeastFirst (λ k (p : Formal). BrokenByName source scope p.of) (λ k. formal_items scope) source l.marks l.resolutions l.formals l.formal-index l.initial.next l.next l.first
