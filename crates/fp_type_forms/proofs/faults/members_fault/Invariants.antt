use Rattle.fp_meaning.specs.Layout.{field_items}
use Rattle.fp_type_forms.specs.Broken.{BrokenByMember}
use Rattle.fp_type_forms.proofs.Breaking.{LeastFirst}
use Rattle.fp_tree.specs.declared.source.Source.{Source}
use Rattle.fp_meaning.specs.Names.{Path}
use Rattle.fp_type_forms.proofs.faults.members_fault.Given as goal

abbrev pub invariant-loop-field : goal.invariant-loop-field
invariant-loop-field l =
    (source : Source) (scope : Path) → LeastFirst (λ k. BrokenByMember source scope) (λ k. field_items scope) source l.marks l.resolutions l.fields l.field-index l.initial.next l.next l.first
