use Rattle.fp_type_forms.specs.Broken.{BrokenByItem}
use Rattle.fp_type_forms.proofs.Breaking.{LeastOfFirst}
use Rattle.fp_type_forms.proofs.checking.faults_among.Given as goal

abbrev pub invariant-loop-index : goal.invariant-loop-index
invariant-loop-index l = LeastOfFirst BrokenByItem l.marks l.resolutions l.items l.index l.first
