use Rattle.fp_tree.specs.declared.source.Source.{Source}
use Rattle.fp_tree.specs.declared.part.Formal.{Formal}
use Rattle.fp_meaning.specs.Layout.{formal_items}
use Rattle.fp_meaning.specs.Names.{Path}
use Rattle.fp_component_forms.specs.Written.{FormalIs, HasType}
use Rattle.fp_component_forms.proofs.Lists.{EachIs, ReadsFirst}
use Rattle.fp_component_forms.proofs.formals.formals_taken.Given as goal

abbrev pub invariant-loop-formal : goal.invariant-loop-formal
invariant-loop-formal l =
    (source : Source) (scope : Path)
    → ReadsFirst (EachIs (FormalIs source scope)) (λ (f : Formal). HasType source scope f.of) (formal_items scope) source l.marks l.resolutions l.formals l.formal-index l.initial.next l.next l.row
