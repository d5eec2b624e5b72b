use Rattle.fp_type_forms.proofs.Breaking.{LeastOfFirst}
use Rattle.fp_part_values.specs.FormBroken.{BrokenByDeclaration}
use Rattle.fp_part_values.proofs.form_checking.part_form_faults.Given as goal

abbrev pub invariant-loop-index : goal.invariant-loop-index
invariant-loop-index l = LeastOfFirst BrokenByDeclaration l.marks l.resolutions l.items l.index l.first
