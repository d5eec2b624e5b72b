use Rattle.fp_type_forms.specs.Broken.{RepeatsByItem}
use Rattle.fp_type_forms.proofs.Breaking.{LeastOfFirst}
use Rattle.fp_type_forms.proofs.repeats.repeats_among.Given as goal

abbrev pub invariant-loop-index : goal.invariant-loop-index
invariant-loop-index l = LeastOfFirst RepeatsByItem l.marks l.resolutions l.items l.index l.first
